use Rattle.std.proofs.Common.{refl}
use Rattle.risc_search.proofs.laws.condition_limit_law.Goals as goal

pub returns : goal.returns
returns c = refl
