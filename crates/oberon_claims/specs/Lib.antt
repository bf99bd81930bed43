-- The passes of a claim book and their result, in reading order:
pub mod Pass
pub mod Counts
pub mod Ledger
pub mod Laws
pub mod inner
