-- Memories, and the pages and tables that make them. Read it in this order:
pub mod Pages
pub mod Tables
pub mod Contents
pub mod Delta
pub mod Laws
pub mod inner
