use Rattle.std.proofs.Common.{List, arith, subst, sym}
use Rattle.oberon_check.specs.Segment.{SegmentVerdictRecord}
use Rattle.oberon_check.specs.inner.Progress.{AreCollected}
use Rattle.oberon_check.proofs.gathering.gather.Goals as goal

pub all_verdicts-requires-clause-shares : goal.all_verdicts-requires-clause-shares
all_verdicts-requires-clause-shares c = (c.args.r.now, c.requires.shares.0, c.requires.shares.1)

pub collect-requires : goal.collect-requires
collect-requires c =
    (subst (λ (vs : List SegmentVerdictRecord). AreCollected c.args.r.now c.args.done.items vs) (sym c.as_slice.ensures.value)
    (c.in_ok-verdicts.ensures.collected c.args.r.now c.requires.shares.0 c.requires.shares.1)).recordings

pub unreachable-requires : goal.unreachable-requires
unreachable-requires c =
    (subst (λ (vs : List SegmentVerdictRecord). AreCollected c.args.r.now c.args.done.items vs) (sym c.as_slice.ensures.value)
    (c.in_ok-verdicts.ensures.collected c.args.r.now c.requires.shares.0 c.requires.shares.1)).whole _ c.in-Err.ensures.fault

pub returns-clause-gathered : goal.returns-clause-gathered
returns-clause-gathered c =
    (subst (λ (vs : List SegmentVerdictRecord). AreCollected c.args.r.now c.args.done.items vs) (sym c.as_slice.ensures.value)
    (c.in_ok-verdicts.ensures.collected c.args.r.now c.requires.shares.0 c.requires.shares.1)).gathered
    c.in-Ok.ensures.lawful c.in-Ok.ensures.truth c.in-Ok.verdict c.in-Ok.ensures.verdict

pub returns-clause-verdict : goal.returns-clause-verdict
returns-clause-verdict c = search arith
