use Rattle.std.proofs.Common.{refl}
use Rattle.risc_machine.proofs.WatchLemmas.{passed-one}
use Rattle.risc_machine.proofs.watch.WatchedObserver.stepped.Goals as goal

pub returns : goal.returns
returns g c = λ s step ready. (refl, passed-one _ s ready)
