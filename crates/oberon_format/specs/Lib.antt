-- Recordings and their files. Read it in this order: a recording, its encoding, the first fault of a file, migration, numbers,
-- laws.
pub mod Fields
pub mod Ranges
pub mod CheckpointParts
pub mod Recording
pub mod Defined
pub mod Changes
pub mod Layout
pub mod Encoding
pub mod Text
pub mod FirstFault
pub mod Rules
pub mod ByteFields
pub mod Line
pub mod Formed
pub mod PartFields
pub mod Migration
pub mod Numbers
pub mod Laws
pub mod inner
