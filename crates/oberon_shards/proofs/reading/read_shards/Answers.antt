use Rattle.std.proofs.Common.{rules}
use Rattle.oberon_shards.proofs.Texts.{read_more}
use Rattle.oberon_shards.specs.inner.Reading.{IsNext}
use Rattle.oberon_shards.proofs.reading.read_shards.Goals as goal

pub loop-alloc-preserved : goal.loop-alloc-preserved
loop-alloc-preserved c =
    let next : IsNext c.loop-alloc.rest.now c.in-Some.shard c.in-Some.more.now = rw c.in-Some.is at c.in_ok-shard.ensures in
    rw c.in_ok-push-in-Some.ensures.items (read_more c.args.text.now c.loop-alloc.shards.items c.loop-alloc.rest.now c.in-Some.shard c.in-Some.more.now c.loop-alloc.invariant next (search rules))
