use Rattle.std.proofs.Common.{ℕ, ◌+◌, ◌<◌, ◌≤◌, get_or}
use Rattle.oberon_shards.specs.declared.shard.Shard.{Shard}
use Rattle.oberon_shards.specs.Combining.{HasSegment}
use Rattle.oberon_shards.proofs.combining.gap_end.Given as goal

abbrev pub invariant-loop-shard : goal.invariant-loop-shard
invariant-loop-shard l = record {
  above : l.at ≤ l.end;
  below : l.end < l.last;
  whole : l.end + 1 < l.last → HasSegment l.shards (l.end + 1);
  none : (k : ℕ) (d : Shard) → k < l.shard-index → l.at < (get_or l.shards k d).from → (get_or l.shards k d).from < (get_or l.shards k d).to → l.end < (get_or l.shards k d).from;
}
