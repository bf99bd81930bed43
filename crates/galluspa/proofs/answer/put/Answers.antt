use Rattle.std.proofs.Common.{arith, refl, ap, length}
use Rattle.galluspa.proofs.answer.put.Goals as goal

pub returns-then-len-out-clause-status : goal.returns-then-len-out-clause-status
returns-then-len-out-clause-status c = λ _ _. refl

pub copy_to_front-requires : goal.copy_to_front-requires
copy_to_front-requires c = omega (arith, c.deref.ensures.len, ap length c.deref.ensures.value)

pub returns-then-len-out-clause-len : goal.returns-then-len-out-clause-len
returns-then-len-out-clause-len c = c.len-len.ensures

pub returns-else-len-gt0-clause-len : goal.returns-else-len-gt0-clause-len
returns-else-len-gt0-clause-len c = c.len-len.ensures
