use Rattle.std.proofs.Common.{◌≡◌, ℕ, ◌<◌, get_or}
use Rattle.oberon_shards.specs.declared.shard.Shard.{Shard}
use Rattle.oberon_shards.specs.Combining.{Agree}
use Rattle.oberon_shards.proofs.combining.opponent.Given as goal

abbrev pub invariant-loop-other : goal.invariant-loop-other
invariant-loop-other l = (a : Shard) (k : ℕ) (d : Shard) → a ≡ get_or l.shards l.one a → k < l.other → Agree a (get_or l.shards k d)
