use Rattle.std.proofs.Common.{[], refl}
use Rattle.risc_machine.proofs.TallyLemmas.{counted-none}
use Rattle.risc_machine.proofs.counters.CountersObserver.admits.Goals as goal

pub returns-clause-nothing : goal.returns-clause-nothing
returns-clause-nothing c = λ s before. counted-none [] 0 0 s _ refl
