use Rattle.std.proofs.Common.{arith}
use Rattle.risc_core.proofs.WordLemmas.{difference_is}
use Rattle.risc_core.proofs.sums.plain_difference.Goals as goal

pub returns : goal.returns
returns c = difference_is c.args.b c.args.c _ (omega arith) (omega arith) c.plain_difference_overflows.ensures
