use Rattle.std.proofs.Common.{arith}
use Rattle.risc_core.proofs.sums.add.Goals as goal

pub returns-then-u : goal.returns-then-u
returns-then-u c = search arith
