use Rattle.std.proofs.Common.{◌≡◌, ◌<◌, ℕ, List, length, get_or, sym, subst}
use Rattle.oberon_check.specs.Segment.{SegmentVerdictRecord}
use Rattle.std.proofs.lemmas.List.Elements.{All-push}
use Rattle.check_tests.proofs.tests.segments.verdicts_of.Goals as goal

pub loop-segment-preserved : goal.loop-segment-preserved
loop-segment-preserved c =
    subst (λ (vs : List SegmentVerdictRecord). (k : ℕ) (d : SegmentVerdictRecord) → k < length vs → (get_or vs k d).recording ≡ c.args.r.now) (sym c.in_ok-push.ensures.items)
    (All-push (λ (v : SegmentVerdictRecord). v.recording ≡ c.args.r.now) _ c.in_ok-verdict.verdict c.loop-segment.invariant c.in_ok-verdict.ensures.recording)
