pub mod Paging
pub mod PoolLemmas
pub mod SlotLemmas
pub mod DeltaLemmas
pub mod DetachedLemmas
