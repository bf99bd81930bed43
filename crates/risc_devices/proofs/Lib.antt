pub mod InputLemmas
pub mod DeviceLemmas
pub mod TickLemmas
pub mod PictureLemmas
pub mod MouseLemmas
mod Examples
