use Rattle.risc_model.proofs.CallLemmas.{open-on, turns-on}
use Rattle.risc_model.proofs.laws.calls_law.Goals as goal

pub returns : goal.returns
returns c = (open-on, turns-on)
