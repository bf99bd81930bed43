-- The bytes of recordings for tests, independent of the crate that reads and writes recordings. In reading order: numbers, the
-- header, checkpoints, files.
pub mod Bytes
pub mod Header
pub mod Claims
pub mod Layout
