-- Definitions for contracts of private functions. No public contract and no law uses them, so nobody has to believe them.
pub mod Claiming
pub mod Extending
pub mod Recording
pub mod Pages
pub mod Running
pub mod Hits
pub mod Counting
pub mod Following
pub mod Held
pub mod Moments
pub mod Asking
pub mod Linking
pub mod Drafting
pub mod Checking
