use Rattle.std.proofs.Common.{arith}
use Rattle.risc_core.proofs.sums.difference_overflows.Goals as goal

pub returns-then-negative-is_set : goal.returns-then-negative-is_set
returns-then-negative-is_set c = search arith
