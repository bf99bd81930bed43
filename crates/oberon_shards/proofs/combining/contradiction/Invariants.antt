use Rattle.std.proofs.Common.{◌≡◌, ◌≢◌, ℕ, ◌<◌, get_or, length}
use Rattle.std.specs.Prelude.{All}
use Rattle.oberon_shards.specs.declared.shard.Finding.TheVariants.{Fails}
use Rattle.oberon_shards.specs.declared.shard.Shard.{Shard}
use Rattle.oberon_shards.specs.Combining.{Agree}
use Rattle.oberon_shards.specs.declared.combining.TheConstants.{NO_SHARD}
use Rattle.oberon_shards.proofs.combining.contradiction.Given as goal

abbrev pub invariant-loop-one : goal.invariant-loop-one
invariant-loop-one l = record {
  rows : (k : ℕ) (d : Shard) → k < l.one → All (Agree (get_or l.shards k d)) l.shards;
  alike : l.like ≢ NO_SHARD → (l.like < l.one) × ((d : Shard) → (get_or l.shards l.like d).finding ≢ Fails);
}
