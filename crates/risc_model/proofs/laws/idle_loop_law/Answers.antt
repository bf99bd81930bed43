use Rattle.risc_model.proofs.IdleLoopLemmas.{loop-again}
use Rattle.risc_model.proofs.laws.idle_loop_law.Goals as goal

pub returns : goal.returns
returns c = loop-again
