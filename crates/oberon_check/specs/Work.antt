-- What one worker does: the jobs that it took, and their verdicts.
use Rattle.std.specs.Prelude.{ℕ, ◌≡◌, ◌⊎◌, ◌+◌, ◌*◌, ◌<◌, ◌≤◌, min, List, [], ◌∷◌, ◌++◌, true, Option, None, Some, All, Contains}
use Rattle.std.specs.Int.{div_ceil}
use Rattle.oberon_claims.specs.Pass.{PassRecord, BookId}
use Rattle.oberon_format.specs.Recording.{RecordingParts, last_of}
use Rattle.oberon_check.specs.declared.part.Part.{Part}
use Rattle.oberon_check.specs.Segment.{SegmentVerdictRecord, IsSeries}

-- some segment that was shown is before this one
abbrev pub IsAfterShown : List ℕ → ℕ → Type 0
IsAfterShown shown first = (x : ℕ) × Contains shown x × (x < first)

-- these are the verdicts of a job. Job j has `cut` segments from `j * cut` on, or fewer at the end of the recording. Its verdicts
-- are those of its segments in order, up to the first failed one; or none, if the job begins after a segment shown
abbrev pub IsJob : ℕ → ℕ → List ℕ → ℕ → List SegmentVerdictRecord → Type 0
IsJob last cut shown job vs =
    ((vs ≡ []) × IsAfterShown shown (job * cut)) ⊎ IsSeries (job * cut) (min (job * cut + cut) last) vs

-- vs is the concatenation of one piece for each x of the list, in order, and P is true of each x and its piece
abbrev pub InPieces : {A : Type 0} → (A → List SegmentVerdictRecord → Type 0) → List A → List SegmentVerdictRecord → Type 0
InPieces P [] vs = vs ≡ []
InPieces P (x ∷ xs) vs =
    (piece : List SegmentVerdictRecord) × (rest : List SegmentVerdictRecord) × (vs ≡ piece ++ rest) × P x piece × InPieces P xs rest

-- a list with the segment if it failed, and the empty list if not
abbrev pub one_failed : ℕ → Option Part → List ℕ
one_failed segment None = []
one_failed segment (Some part) = segment ∷ []

-- the segments that failed, in order
abbrev pub failed_of : List SegmentVerdictRecord → List ℕ
failed_of [] = []
failed_of (v ∷ vs) = one_failed v.segment v.part ++ failed_of vs

-- each job that the pass took has its verdicts, there are no others, and the pass reported the failed segments
pub record HasDone (last cut : ℕ) (p : PassRecord) (vs : List SegmentVerdictRecord) : Type 0 where
  pub jobs : InPieces (IsJob last cut p.shown) p.taken vs
  pub reported : p.reported ≡ failed_of vs

-- a worker's share as contracts see it
pub record DoneRecord : Type 0 where
  pub recording : RecordingParts
  pub cut : ℕ
  pub pass : PassRecord
  pub verdicts : List SegmentVerdictRecord

-- the share is complete: the pass was answered `None`, its book has as many jobs as the recording has at this cut, and the
-- verdicts are of this recording and of the jobs that the pass took
pub record IsDone (d : DoneRecord) : Type 0 where
  pub cut : 1 ≤ d.cut
  pub book : d.pass.book.jobs ≡ div_ceil (last_of d.recording) d.cut
  pub ended : d.pass.ended ≡ true
  pub recordings : All (λ v. v.recording ≡ d.recording) d.verdicts
  pub done : HasDone (last_of d.recording) d.cut d.pass d.verdicts

-- the share is of this recording, cut and book
pub record IsShareOf (r : RecordingParts) (cut : ℕ) (book : BookId) (d : DoneRecord) : Type 0 where
  pub recording_is : d.recording ≡ r
  pub cut_is : d.cut ≡ cut
  pub book_is : d.pass.book ≡ book
