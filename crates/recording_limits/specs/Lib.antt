-- The limits of recordings and sessions, by value.
pub mod Laws
