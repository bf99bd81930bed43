mod Mapped
mod Shapes
mod Taking
mod Members
mod Orders
mod Lawful
mod PartLemmas
mod RuleLemmas
pub mod Runs
pub mod PagesStored
pub mod Contents
mod Steps
mod LawfulMore
mod Next
mod Reaching
mod Begun
mod Whole
mod StoredLaws
pub mod JoinedOrder
mod Continuing
mod Growing
mod FirstTables
mod Deciding
pub mod Table
pub mod OneAnswers
pub mod Plain
