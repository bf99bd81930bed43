use Rattle.check_tests.proofs.tests.passes.verdict_of_eight.Goals as goal

pub gather-requires-clause-shares : goal.gather-requires-clause-shares
gather-requires-clause-shares g c = (1, c.in_ok-done.ensures.shares)
