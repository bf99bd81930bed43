-- Definitions for contracts of private functions. No public contract, no law and no view of a type (`impl Model`) uses them, so
-- nobody has to believe them.
pub mod Failures
pub mod Requests
