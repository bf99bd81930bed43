use Rattle.std.proofs.Common.{arith}
use Rattle.risc_search.proofs.concerns.Concerns.with_all.Goals as goal

pub returns-clause-all : goal.returns-clause-all
returns-clause-all c = λ n below. c.joined-concerns.ensures.other n (omega arith, omega (arith, below))
