use Rattle.std.proofs.Common.{arith}
use Rattle.std.proofs.lemmas.Int.{to_z-of_z}
use Rattle.risc_core.proofs.WordLemmas.{shifted_right-is}
use Rattle.risc_core.proofs.arithmetic.shift_right.Goals as goal

pub returns : goal.returns
returns c = grind (arith, to_z-of_z, shifted_right-is)
