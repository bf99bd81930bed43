-- Definitions for private functions and for the insides of types. No public contract and no law uses them. Where the view of a type
-- passes through them, the contracts of its calls say what it shows.
pub mod Own
pub mod Book
pub mod Steps
pub mod Shown
