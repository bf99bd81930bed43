use Rattle.std.proofs.Common.{◌≡◌}
use Rattle.std.specs.Prelude.{All}
use Rattle.oberon_check.specs.Segment.{SegmentVerdictRecord}
use Rattle.check_tests.proofs.tests.segments.verdicts_of.Given as goal

abbrev pub invariant-loop-segment : goal.invariant-loop-segment
invariant-loop-segment l = All (λ (v : SegmentVerdictRecord). v.recording ≡ l.r) l.verdicts.items
