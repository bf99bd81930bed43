use Rattle.risc_model.proofs.CallLemmas.{with_calls-on}
use Rattle.risc_model.proofs.laws.inclusive_law.Goals as goal

pub returns : goal.returns
returns c = with_calls-on
