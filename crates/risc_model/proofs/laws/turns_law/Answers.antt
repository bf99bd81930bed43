use Rattle.risc_model.proofs.TurnLemmas.{turned-run}
use Rattle.risc_model.proofs.laws.turns_law.Goals as goal

pub returns : goal.returns
returns c = turned-run
