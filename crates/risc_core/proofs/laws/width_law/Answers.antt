use Rattle.risc_core.proofs.LawLemmas.{from_bits_below-lt}
use Rattle.risc_core.proofs.laws.width_law.Goals as goal

pub returns : goal.returns
returns c = from_bits_below-lt
