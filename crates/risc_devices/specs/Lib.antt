-- The devices of the workstation. Read it in this order:
pub mod KeyCodes
pub mod InputKind
pub mod DeviceState
pub mod Ticks
pub mod Input
pub mod DeviceWords
pub mod Picture
pub mod Laws
pub mod inner
