use Rattle.std.proofs.Common.{refl}
use Rattle.risc_model.proofs.laws.last_count_law.Goals as goal

pub returns : goal.returns
returns c = refl
