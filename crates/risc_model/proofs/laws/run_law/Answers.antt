use Rattle.risc_model.proofs.LawLemmas.{run_of-on, sent_of-on}
use Rattle.risc_model.proofs.laws.run_law.Goals as goal

pub returns : goal.returns
returns c = (run_of-on, sent_of-on)
