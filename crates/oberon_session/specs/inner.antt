-- Definitions for contracts of private functions. No public contract, no law and no view of a type (`impl Model`) uses them, so
-- nobody has to believe them.
pub mod Progress
pub mod Growing
pub mod Drafts
pub mod Tested
pub mod Taken
pub mod Found
pub mod FoundViews
