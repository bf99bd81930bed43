use Rattle.std.proofs.Common.{refl}
use Rattle.risc_core.proofs.laws.counter_law.Goals as goal

pub returns : goal.returns
returns c = refl
