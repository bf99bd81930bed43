use Rattle.check_tests.proofs.tests.passes.work_of_two.Goals as goal

pub gather-requires-clause-shares : goal.gather-requires-clause-shares
gather-requires-clause-shares c = (4, c.in_ok-done.ensures.shares)
