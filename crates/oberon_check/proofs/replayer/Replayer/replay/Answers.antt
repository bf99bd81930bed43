use Rattle.std.proofs.Common.{arith}
use Rattle.oberon_check.proofs.replayer.Replayer.replay.Goals as goal

pub invariant_of-self : goal.invariant_of-self
invariant_of-self c = search arith
