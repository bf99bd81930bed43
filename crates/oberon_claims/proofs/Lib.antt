pub mod Counting
pub mod Examples
pub mod Gathers
pub mod Keeps
pub mod Shares
pub mod Steps
pub mod Sums
