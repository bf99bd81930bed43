use Rattle.std.proofs.Common.{length}
use Rattle.oberon_shards.specs.inner.Reading.{IsReadTo}
use Rattle.oberon_shards.proofs.reading.read_shards.Given as goal

abbrev pub invariant-loop-alloc : goal.invariant-loop-alloc
invariant-loop-alloc l = IsReadTo l.text l.shards.items l.rest

abbrev pub decreases-loop-alloc : goal.decreases-loop-alloc
decreases-loop-alloc l = length l.rest
