use Rattle.oberon_format.proofs.Common.{All-map, arith, checkpoint_parts, IsFormed}
use Rattle.oberon_format.proofs.formed.all_formed_law.Goals as goal

pub returns : goal.returns
returns c = All-map IsFormed checkpoint_parts c.args.checkpoints.now (λ k d lt. c.loop-checkpoint.invariant k d (omega arith) lt)
