-- Sessions and their recordings. Read it in this order: what a JSON text says, a session, the rules, its recording, a recording
-- that is extended, laws.
pub mod Shape
pub mod Draft
pub mod Digits
pub mod Ranges
pub mod SessionParts
pub mod Parts
pub mod Rules
pub mod Session
pub mod FaultNames
pub mod Stored
pub mod Recorded
pub mod Extended
pub mod Laws
pub mod inner
