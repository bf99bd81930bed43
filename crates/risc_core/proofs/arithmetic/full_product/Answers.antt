use Rattle.std.proofs.Common.{arith}
use Rattle.std.proofs.lemmas.Grind.{common_steps}
use Rattle.risc_core.proofs.arithmetic.full_product.Goals as goal

pub overflow_mul-result : goal.overflow_mul-result
overflow_mul-result c = search arith

pub overflow_mul-signed : goal.overflow_mul-signed
overflow_mul-signed c = grind (arith, common_steps)

pub returns-then-u : goal.returns-then-u
returns-then-u c = search arith

pub returns-else-u : goal.returns-else-u
returns-else-u c = grind (arith, common_steps)
