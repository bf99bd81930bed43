-- Why no verdict on a recording follows from a list of segment verdicts. This project's own choice.
use Rattle.std.specs.Prelude.{ℕ, ◌≡◌, ◌<◌, List, Option, None, IsSome, map, length, slice_index, slice_index_or}
use Rattle.oberon_format.specs.Recording.{RecordingParts, last_of}
use Rattle.oberon_check.specs.declared.part.Part.{Part}
use Rattle.oberon_check.specs.declared.collector.CollectFault.{CollectFault}
use Rattle.oberon_check.specs.declared.collector.CollectFault.TheVariants.{Double, Missing}
use Rattle.oberon_check.specs.Segment.{SegmentVerdictRecord}

-- the segment and the part of verdict k, counted from 0
abbrev pub segment_at : List SegmentVerdictRecord → ℕ → ℕ
segment_at vs k = slice_index (map (λ (v : SegmentVerdictRecord). v.segment) vs) k

abbrev pub part_at : List SegmentVerdictRecord → ℕ → Option Part
part_at vs k = slice_index_or (map (λ (v : SegmentVerdictRecord). v.part) vs) k None

-- one of the first n verdicts is of this segment
abbrev pub OccursBelow : List SegmentVerdictRecord → ℕ → ℕ → Type 0
OccursBelow vs n segment = (k : ℕ) × (k < n) × (segment_at vs k ≡ segment)

-- this is the segment of the first verdict whose segment occurred before it
pub record IsFirstDouble (vs : List SegmentVerdictRecord) (segment : ℕ) : Type 0 where
  pub at : ℕ
  pub inside : at < length vs
  pub is : segment_at vs at ≡ segment
  pub occurred : OccursBelow vs at segment
  pub before : (k : ℕ) → k < at → ¬ (OccursBelow vs k (segment_at vs k))

-- this is the least segment without a verdict, and it is below every failed segment
pub record IsFirstMissing (r : RecordingParts) (vs : List SegmentVerdictRecord) (segment : ℕ) : Type 0 where
  pub inside : segment < last_of r
  pub missing : ¬ (OccursBelow vs (length vs) segment)
  pub before : (s : ℕ) → s < segment → OccursBelow vs (length vs) s
  pub below_failed : (k : ℕ) → k < length vs → IsSome (part_at vs k) → segment < segment_at vs k

-- the number of such a fault (this project's own choice)
abbrev pub collect_fault_number : CollectFault → ℕ
collect_fault_number (Double segment) = 1
collect_fault_number (Missing segment) = 2

-- some segment has two verdicts; or, if none has two, a segment that needs a verdict has none
abbrev pub IsCollectFault : RecordingParts → List SegmentVerdictRecord → CollectFault → Type 0
IsCollectFault r vs (Double segment) = IsFirstDouble vs segment
IsCollectFault r vs (Missing segment) = ((s : ℕ) → ¬ (IsFirstDouble vs s)) × IsFirstMissing r vs segment
