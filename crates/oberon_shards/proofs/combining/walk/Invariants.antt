use Rattle.std.proofs.Common.{ℕ, ◌-◌, ◌<◌}
use Rattle.oberon_shards.specs.Combining.{IsCovered}
use Rattle.oberon_shards.proofs.combining.walk.Given as goal

abbrev pub invariant-loop-at : goal.invariant-loop-at
invariant-loop-at l = (k : ℕ) → k < l.at → IsCovered l.shards k

abbrev pub decreases-loop-at : goal.decreases-loop-at
decreases-loop-at l = l.last - l.at
