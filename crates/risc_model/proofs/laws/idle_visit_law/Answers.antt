use Rattle.risc_model.proofs.IdleVisitLemmas.{loop-counts}
use Rattle.risc_model.proofs.laws.idle_visit_law.Goals as goal

pub returns : goal.returns
returns c = loop-counts
