-- Definitions for private functions and for the insides of types. No public contract and no law uses them. Where the view of a type
-- passes through them, the contracts of its getters say what it shows.
pub mod Comparing
pub mod Names
pub mod Tally
pub mod Progress
