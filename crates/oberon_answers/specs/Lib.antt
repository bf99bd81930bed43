-- What each call answers to the bytes of a file, in reading order. What a check answers is the headline of `oberon_check`.
pub mod Record
pub mod Screen
pub mod Migrate
pub mod inner
