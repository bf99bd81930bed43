-- Definitions for private functions and for the insides of types. No public contract and no law uses them. The view by which
-- contracts see a machine passes through some of them; the contracts of the getters, which are public, say what it shows. So nobody
-- has to believe these definitions.
pub mod Boards
pub mod Rows
pub mod DecodedOps
pub mod Matched
pub mod Entries
pub mod Follows
pub mod Frames
pub mod Operands
pub mod RunExits
pub mod Destinations
pub mod Notes
pub mod Jumps
pub mod Branches
pub mod Observers
pub mod Passes
