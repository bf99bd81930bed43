use Rattle.oberon_shards.specs.Shard.{Hold}
use Rattle.oberon_shards.proofs.sharding.first_failed.Given as goal

abbrev pub invariant-loop-segment : goal.invariant-loop-segment
invariant-loop-segment l = Hold l.r l.from l.segment
