use Rattle.risc_model.proofs.TurnLemmas.{stack-run}
use Rattle.risc_model.proofs.laws.stack_law.Goals as goal

pub returns : goal.returns
returns c = stack-run
