use Rattle.std.proofs.Common.{ℕ, ◌<◌, ◌≤◌, get_or}
use Rattle.oberon_shards.specs.declared.shard.Shard.{Shard}
use Rattle.oberon_shards.proofs.combining.covering.Given as goal

abbrev pub invariant-loop-shard : goal.invariant-loop-shard
invariant-loop-shard l =
    (k : ℕ) (d : Shard) → k < l.shard-index → ¬ (((get_or l.shards k d).from ≤ l.segment) × (l.segment < (get_or l.shards k d).to))
