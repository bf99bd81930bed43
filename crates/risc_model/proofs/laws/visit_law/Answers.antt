use Rattle.risc_model.proofs.VisitLemmas.{visit-sums}
use Rattle.risc_model.proofs.laws.visit_law.Goals as goal

pub returns : goal.returns
returns c = visit-sums
