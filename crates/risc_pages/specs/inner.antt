-- Definitions for private functions and for the insides of types. No public contract and no law uses them. The views by which
-- contracts see types pass through some of them; the contracts of the getters, which are public, say what a view shows. So nobody
-- has to believe these definitions.
pub mod Slots
pub mod Detached
