-- What the shares of all workers prove about the verdict that follows from them.
use Rattle.std.specs.Prelude.{ℕ, ◌≡◌, ◌-◌, ◌<◌, List, [], ◌∷◌, ◌++◌, map, length, Option, None, Some}
use Rattle.oberon_claims.specs.Pass.{PassRecord}
use Rattle.oberon_claims.specs.Ledger.{all_reported, IsLeastOf}
use Rattle.oberon_format.specs.Recording.{RecordingParts, last_of}
use Rattle.oberon_check.specs.declared.part.Part.{Part}
use Rattle.oberon_check.specs.declared.verdict.Verdict.{Verdict}
use Rattle.oberon_check.specs.declared.verdict.Verdict.TheVariants.{Accepted, FalseAt}
use Rattle.oberon_check.specs.Segment.{SegmentVerdictRecord, IsSegmentPart}
use Rattle.oberon_check.specs.Collecting.{segment_at, part_at, OccursBelow}
use Rattle.oberon_check.specs.Work.{DoneRecord}

-- the passes of the shares, in the order of the shares
abbrev pub passes_of : List DoneRecord → List PassRecord
passes_of ds = map (λ (d : DoneRecord). d.pass) ds

-- the segment verdicts of all shares, concatenated in the order of the shares
abbrev pub all_verdicts : List DoneRecord → List SegmentVerdictRecord
all_verdicts [] = []
all_verdicts (d ∷ ds) = d.verdicts ++ all_verdicts ds

-- no segment has two verdicts
abbrev pub IsEachOnce : List SegmentVerdictRecord → Type 0
IsEachOnce vs = (j k : ℕ) → j < length vs → k < length vs → segment_at vs j ≡ segment_at vs k → j ≡ k

-- this segment has a verdict with this part, and the segment's replay finds that part
pub record HasSegmentVerdict (r : RecordingParts) (vs : List SegmentVerdictRecord) (segment : ℕ) (part : Option Part) : Type 0 where
  pub at : ℕ
  pub inside : at < length vs
  pub segment_is : segment_at vs at ≡ segment
  pub part_is : part_at vs at ≡ part
  pub replay : IsSegmentPart r segment part

-- how many segments are below the answer's segment: all of them, if every checkpoint is true
abbrev pub below_answer : Verdict → ℕ
below_answer (Accepted checkpoints steps) = checkpoints
below_answer (FalseAt checkpoint count part) = checkpoint - 1

-- the segment that leads to the false checkpoint has a verdict with the answer's part
abbrev pub HasAnswer : RecordingParts → List SegmentVerdictRecord → Verdict → Type 0
HasAnswer r vs (Accepted checkpoints steps) = Unit {0}
HasAnswer r vs (FalseAt checkpoint count part) = HasSegmentVerdict r vs (checkpoint - 1) (Some part)

-- the segment is after the least segment reported
abbrev pub IsAfterLeast : List ℕ → ℕ → Type 0
IsAfterLeast reported segment = (least : ℕ) × IsLeastOf reported (Some least) × (least < segment)

-- what is true of the shares of a recording that has this verdict
pub record IsGathered (r : RecordingParts) (ds : List DoneRecord) (verdict : Verdict) : Type 0 where
  -- no segment has two verdicts
  pub once : IsEachOnce (all_verdicts ds)
  -- each segment below the answer's was replayed and held
  pub below : (s : ℕ) → s < below_answer verdict → HasSegmentVerdict r (all_verdicts ds) s None
  -- the answer's segment was replayed, and failed with the answer's part
  pub answer : HasAnswer r (all_verdicts ds) verdict
  -- a segment that was skipped is after the least that any worker reported
  pub skipped : (s : ℕ) → s < last_of r → ¬ (OccursBelow (all_verdicts ds) (length (all_verdicts ds)) s)
      → IsAfterLeast (all_reported (passes_of ds)) s
