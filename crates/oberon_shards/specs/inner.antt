-- Definitions for contracts of private functions. No public contract and no law uses them, so nobody has to believe them.
pub mod Stretch
pub mod Walking
pub mod Reading
