use Rattle.std.proofs.Common.{arith}
use Rattle.risc_model.proofs.inputs.Inputs.events.Goals as goal

pub returns-clause-events : goal.returns-clause-events
returns-clause-events c = search arith
