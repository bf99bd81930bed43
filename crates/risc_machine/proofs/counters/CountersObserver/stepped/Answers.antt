use Rattle.risc_machine.proofs.TallyLemmas.{counted-told}
use Rattle.risc_machine.proofs.counters.CountersObserver.stepped.Goals as goal

pub returns : goal.returns
returns c = λ s step ready. counted-told s c.args.from c.args.to c.args.runs _ _ step c.add.ensures
