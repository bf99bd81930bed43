-- The lemmas of this crate.
pub mod ReadLemmas
mod DisplayLemmas
mod FirstLemmas
mod LineLemmas
