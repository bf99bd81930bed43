use Rattle.std.proofs.Common.{arith}
use Rattle.risc_core.proofs.WordLemmas.{carried_is}
use Rattle.risc_core.proofs.sums.carried_sum.Goals as goal

pub returns : goal.returns
returns c =
    carried_is c.args.b c.args.c _ c.args.carry _ _ (omega arith) (omega arith) (omega arith) c.carrying_add-value.ensures c.sum_overflows.ensures
