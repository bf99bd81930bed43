use Rattle.std.proofs.Common.{arith}
use Rattle.oberon_format.proofs.ranges.is_count.Goals as goal

pub returns-then-before-count : goal.returns-then-before-count
returns-then-before-count c = search arith
