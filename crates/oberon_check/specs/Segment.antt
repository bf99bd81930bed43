-- The replay of one segment, which leads from checkpoint i to checkpoint i + 1.
use Rattle.std.specs.Prelude.{ℕ, ◌+◌, ◌-◌, ◌<◌, Option, ◌≡◌, List, [], ◌∷◌, MatchOption}
use Rattle.risc_model.specs.Replay.{run_of, sent_of}
use Rattle.oberon_format.specs.Recording.{RecordingParts, IsLawfulWithDisk, count_at, last_of}
use Rattle.oberon_format.specs.Defined.{Outcome, claimed}
use Rattle.oberon_check.specs.declared.part.Part.{Part}
use Rattle.oberon_check.specs.Difference.{IsDifference}

-- the outcome at the count of checkpoint i + 1 of a run from the state that checkpoint i claims
abbrev pub replayed : RecordingParts → ℕ → Outcome
replayed r i =
    let steps = count_at r (i + 1) - count_at r i in
    record {
      state = run_of r.inputs (count_at r i) steps (claimed r i).state;
      sent = sent_of r.inputs (count_at r i) steps (claimed r i).state;
    }

-- this is the first part in which that outcome differs from what checkpoint i + 1 claims, or `None` if the segment holds
abbrev pub IsSegmentPart : RecordingParts → ℕ → Option Part → Type 0
IsSegmentPart r i part = IsDifference (claimed r (i + 1)) (replayed r i) part

-- a segment verdict as contracts see it: its recording, its segment, and the part that was found to differ
pub record SegmentVerdictRecord : Type 0 where
  pub recording : RecordingParts
  pub segment : ℕ
  pub part : Option Part

-- the segment verdict is true of its recording
pub record IsTrueSegmentVerdict (v : SegmentVerdictRecord) : Type 0 where
  pub lawful : IsLawfulWithDisk v.recording
  pub inside : v.segment < last_of v.recording
  pub replay : IsSegmentPart v.recording v.segment v.part

-- the list has the verdicts of the segments from `first` to `end - 1` in order, or only up to the first that failed
abbrev pub IsSeries : ℕ → ℕ → List SegmentVerdictRecord → Type 0
IsSeries first end [] = first ≡ end
IsSeries first end (v ∷ vs) =
    (first < end) × (v.segment ≡ first) × MatchOption v.part (IsSeries (first + 1) end vs) (λ _. vs ≡ [])
