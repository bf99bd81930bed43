use Rattle.std.proofs.Common.{arith}
use Rattle.oberon_session.proofs.extension.checkpoint_of.Goals as goal

pub returns-clause-checkpoint : goal.returns-clause-checkpoint
returns-clause-checkpoint c = search arith
