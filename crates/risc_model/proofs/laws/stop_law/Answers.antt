use Rattle.risc_model.proofs.LawLemmas.{stops-alone}
use Rattle.risc_model.proofs.laws.stop_law.Goals as goal

pub returns : goal.returns
returns c = stops-alone
