pub mod ListLemmas
pub mod CardLemmas
pub mod TransferLemmas
pub mod LawLemmas
mod Examples
