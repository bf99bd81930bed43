use Rattle.std.proofs.Common.{refl}
use Rattle.risc_machine.proofs.laws.capacity_law.Goals as goal

pub returns : goal.returns
returns c = record { store_log = refl }
