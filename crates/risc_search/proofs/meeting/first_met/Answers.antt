use Rattle.std.proofs.Common.{arith}
use Rattle.risc_search.proofs.meeting.first_met.Goals as goal

pub returns-then-not-any_met-clause-none : goal.returns-then-not-any_met-clause-none
returns-then-not-any_met-clause-none c = λ k below all. c.any_met.ensures c.if-not-any_met.true k below ((all.each k (omega arith) (λ i reached less. absurd (omega (arith, reached, less)))).1)
