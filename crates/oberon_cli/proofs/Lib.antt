-- Files that the proofs of this crate depend on.
mod AnswerLemmas
mod FoundLemmas
mod KnownLemmas
mod Literals
mod Numbers
mod Parsed
mod SinkLemmas
mod ThreeLemmas
mod TurnLemmas
