-- What a search through a run looks for, and what it answers. Read it in this order:
pub mod Span
pub mod Access
pub mod Step
pub mod Effects
pub mod Changes
pub mod Values
pub mod Condition
pub mod Clauses
pub mod Search
pub mod Hits
pub mod Laws
pub mod inner
