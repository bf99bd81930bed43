-- Files that the proofs of this crate depend on.
mod Encoded
mod Lists
