use Rattle.std.proofs.Common.{arith}
use Rattle.risc_core.proofs.WordLemmas.{rotated_is}
use Rattle.risc_core.proofs.arithmetic.rotate.Goals as goal

pub returns : goal.returns
returns c = grind (arith, rotated_is)
