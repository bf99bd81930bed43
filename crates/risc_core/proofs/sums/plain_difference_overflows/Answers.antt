use Rattle.std.proofs.Common.{rules}
use Rattle.risc_core.proofs.sums.plain_difference_overflows.Goals as goal

pub returns : goal.returns
returns c = search rules
