use Rattle.std.proofs.Common.{◌≡◌}
use Rattle.check_tests.proofs.tests.claims.work.Given as goal

abbrev pub invariant-loop-claim : goal.invariant-loop-claim
invariant-loop-claim l = l.pass.book ≡ l.claims
