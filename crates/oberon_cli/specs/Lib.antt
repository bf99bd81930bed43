-- What the program reads and writes, in reading order: what the arguments ask for, the answer of each command, the program.
pub mod Program
pub mod Asked
pub mod Answer
pub mod Transfer
pub mod Reply
pub mod Laws
pub mod inner
