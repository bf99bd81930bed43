-- When the machine may fail to allocate, and what logs and watches are of it. What its steps and runs are is in `risc_model`.
pub mod Allocation
pub mod StoreLogs
pub mod CallLogs
pub mod Watches
pub mod Tallies
pub mod Laws
pub mod inner
