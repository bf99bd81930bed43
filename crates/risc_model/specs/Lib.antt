-- The model of the machine: its state, one instruction, and runs that take inputs at their counts. Read it in this order:
pub mod MachineState
pub mod Lane
pub mod Exec
pub mod InputOrder
pub mod DiskInputs
pub mod Replay
pub mod OneRun
pub mod IdleLoops
pub mod Visits
pub mod Calls
pub mod Turns
pub mod Inclusive
pub mod Laws
