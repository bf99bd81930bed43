-- A recording whose segments are replayed one after another.
use Rattle.std.specs.Prelude.{ℕ, ◌≡◌, ◌<◌, List, All, length}
use Rattle.oberon_format.specs.Recording.{RecordingParts}
use Rattle.oberon_check.specs.Collecting.{segment_at}
use Rattle.oberon_check.specs.Segment.{SegmentVerdictRecord}

-- the verdicts are those of the recording's first segments, in order
pub record AreFirst (r : RecordingParts) (verdicts : List SegmentVerdictRecord) : Type 0 where
  pub of_recording : All (λ v. v.recording ≡ r) verdicts
  pub in_order : (k : ℕ) → k < length verdicts → segment_at verdicts k ≡ k
