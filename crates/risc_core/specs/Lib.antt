-- One instruction, independent of any machine. Read it in this order:
pub mod Word
pub mod Stop
pub mod Flags
pub mod Instruction
pub mod Arithmetic
pub mod Branch
pub mod Written
pub mod Place
pub mod Laws
