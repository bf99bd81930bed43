use Rattle.std.proofs.Common.{arith}
use Rattle.risc_core.proofs.WordLemmas.{product_is}
use Rattle.risc_core.proofs.arithmetic.multiply.Goals as goal

pub returns : goal.returns
returns c = grind (arith, product_is)
