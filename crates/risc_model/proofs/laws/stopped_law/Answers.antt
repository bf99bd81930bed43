use Rattle.risc_model.proofs.LawLemmas.{stopped-stays, stopped-takes_none}
use Rattle.risc_model.proofs.laws.stopped_law.Goals as goal

pub returns : goal.returns
returns c = (stopped-stays, stopped-takes_none)
