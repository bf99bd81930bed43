use Rattle.std.proofs.Common.{arith}
use Rattle.risc_core.proofs.WordLemmas.{difference_less_borrow}
use Rattle.risc_core.proofs.sums.borrowed_difference.Goals as goal

pub returns : goal.returns
returns c =
    difference_less_borrow c.args.b c.args.c _ c.args.borrow _ _ (omega arith) (omega arith) (omega arith) c.borrowing_sub-value.ensures c.difference_overflows.ensures
