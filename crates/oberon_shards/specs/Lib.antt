-- The check in shards, in reading order: what is known of a shard, which segments it has, the lines of shards, what they combine to.
pub mod Shard
pub mod Border
pub mod Lines
pub mod Combining
pub mod Combination
pub mod Laws
pub mod inner
