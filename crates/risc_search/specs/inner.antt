-- What private functions here promise each other: the parts of a step, and how far a search is. No public contract mentions them.
pub mod Joined
pub mod Due
pub mod Accesses
pub mod Observed
pub mod Idle
pub mod Concerns
pub mod Progress
