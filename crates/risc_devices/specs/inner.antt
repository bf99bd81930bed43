-- Definitions for the insides of types. No public contract and no law uses them. The view by which contracts see the devices passes
-- through them; the contracts of the getters, which are public, say what it shows. So nobody has to believe these definitions.
pub mod Shown
