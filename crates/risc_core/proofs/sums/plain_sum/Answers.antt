use Rattle.std.proofs.Common.{arith}
use Rattle.std.proofs.lemmas.Grind.{common_steps}
use Rattle.risc_core.proofs.sums.plain_sum.Goals as goal

pub returns : goal.returns
returns c = grind (arith, common_steps)

pub overflow_add-signed : goal.overflow_add-signed
overflow_add-signed c = search arith
