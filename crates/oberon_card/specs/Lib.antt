-- An SD card over SPI. Read it in this order:
pub mod CardState
pub mod Commands
pub mod Exchange
pub mod Transfer
pub mod Wants
pub mod Laws
