use Rattle.oberon_shards.proofs.Members.{covered_more}
use Rattle.std.proofs.Common.{rules}
use Rattle.oberon_shards.proofs.combining.walk.Goals as goal

pub loop-at-preserved : goal.loop-at-preserved
loop-at-preserved c =
    covered_more c.args.shards.now c.loop-at.at c.in-Some.shard.now c.loop-at.invariant c.in-Some.ensures (search rules)
