-- The tally of the first n segment verdicts.
use Rattle.std.specs.Prelude.{ℕ, ◌≡◌, ◌<◌, ◌≤◌, ◌↔◌, List, Bool, true, false, Option, None, Some, IsSome, MatchOption}
use Rattle.std.specs.Prelude.{slice_index_or, nat_lt, if◌then◌else◌}
use Rattle.oberon_check.specs.declared.collector.TheConstants.{MAX_SEGMENTS}
use Rattle.oberon_check.specs.declared.part.Part.{Part}
use Rattle.oberon_check.specs.Segment.{SegmentVerdictRecord}
use Rattle.oberon_check.specs.Collecting.{segment_at, part_at, OccursBelow}

-- the least failed segment with its part, after one more segment verdict
abbrev pub lesser_of : Option (ℕ × Part) → ℕ → Option Part → Option (ℕ × Part)
lesser_of least segment None = least
lesser_of None segment (Some part) = Some (segment, part)
lesser_of (Some f) segment (Some part) = if nat_lt segment f.0 then Some (segment, part) else Some f

-- how many segments need a verdict: those below the least failed one, or all of them if none failed
abbrev pub end_of : Option (ℕ × Part) → ℕ → ℕ
end_of None last = last
end_of (Some f) last = f.0

-- segment s is marked as seen
abbrev pub IsMarked : List Bool → ℕ → Type 0
IsMarked seen s = slice_index_or seen s false ≡ true

-- this is the least failed segment of the first n verdicts with its part, or `None` if none of them failed
abbrev pub IsLeastFailed : List SegmentVerdictRecord → ℕ → Option (ℕ × Part) → Type 0
IsLeastFailed vs n least = MatchOption least
    ((k : ℕ) → k < n → part_at vs k ≡ None)
    (λ f. ((k : ℕ) × (k < n) × (segment_at vs k ≡ f.0) × (part_at vs k ≡ Some f.1))
    × ((k : ℕ) → k < n → IsSome (part_at vs k) → f.0 ≤ segment_at vs k))

-- `seen` marks the segments of the first n verdicts, each of which has only one, and `least` is the least that failed
pub record IsTally (vs : List SegmentVerdictRecord) (n : ℕ) (seen : List Bool) (least : Option (ℕ × Part)) : Type 0 where
  pub marks : (s : ℕ) → s < MAX_SEGMENTS → IsMarked seen s ↔ OccursBelow vs n s
  pub single : (k : ℕ) → k < n → ¬ (OccursBelow vs k (segment_at vs k))
  pub least_failed : IsLeastFailed vs n least

-- this is the first segment below `end` that is not marked, or `None` if all are
abbrev pub IsFirstUnmarked : List Bool → ℕ → Option ℕ → Type 0
IsFirstUnmarked seen end found = MatchOption found ((s : ℕ) → s < end → IsMarked seen s)
    (λ x. (x < end) × ¬ (IsMarked seen x) × ((s : ℕ) → s < x → IsMarked seen s))
