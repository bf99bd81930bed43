use Rattle.std.proofs.Common.{refl}
use Rattle.risc_pages.proofs.laws.sizes_law.Goals as goal

pub returns : goal.returns
returns c = record { page = refl; slots = refl; memory = refl }
