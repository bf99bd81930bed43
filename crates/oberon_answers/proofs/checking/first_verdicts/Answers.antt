use Rattle.std.proofs.Common.{arith}
use Rattle.oberon_answers.proofs.FirstLemmas.{whole_all, whole_failed}
use Rattle.oberon_answers.proofs.checking.first_verdicts.Goals as goal

pub returns-clause-whole : goal.returns-clause-whole
returns-clause-whole c =
    let l = c.loop-segment in
    whole_all c.args.r.now l.verdicts.items l.invariant.first (omega (arith, l.invariant.next, l.auto.segment-end, c.loop-segment-test.false, c.count-segment-end.ensures.count))

pub returns-then-branch-clause-first : goal.returns-then-branch-clause-first
returns-then-branch-clause-first c = c.in_ok-replay_into.ensures.first

pub returns-then-branch-clause-whole : goal.returns-then-branch-clause-whole
returns-then-branch-clause-whole c =
    whole_failed c.args.r.now c.replay_into.new.verdicts.items c.loop-segment.segment c.in_ok-replay_into.ensures.first
    c.in_ok-replay_into.ensures.more (c.in_ok-replay_into.ensures.failed c.if-branch.true)
