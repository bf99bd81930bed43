-- The lemmas of this crate.
mod WordLemmas
mod TextLemmas
mod ClaimLemmas
mod FrameLemmas
mod InputLemmas
mod ConditionLemmas
mod HitLemmas
mod AdvanceLemmas
mod ProfileLemmas
mod RecordedLemmas
mod FileLemmas
mod ExtendLemmas
mod RecordLemmas
mod DraftLemmas
mod JoinLemmas
pub mod OpenLemmas
mod LooseValues
mod MomentLemmas
mod LiveLemmas
mod LogLemmas
mod CheckLemmas
mod SealedValues
mod PastCrossing
