pub mod DueLemmas
pub mod StoreLemmas
mod KeepLemmas
pub mod ConditionLemmas
pub mod ClauseLemmas
pub mod StepLemmas
pub mod SearchLemmas
pub mod HitLemmas
pub mod IdleLemmas
pub mod ConcernLemmas
pub mod EffectLemmas
mod EffectExamples
pub mod Examples
