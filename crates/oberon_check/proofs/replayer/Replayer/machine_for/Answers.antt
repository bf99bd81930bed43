use Rattle.std.proofs.Common.{arith}
use Rattle.oberon_check.proofs.replayer.Replayer.machine_for.Goals as goal

pub returns-in-Some-clause-state : goal.returns-in-Some-clause-state
returns-in-Some-clause-state c = search arith
