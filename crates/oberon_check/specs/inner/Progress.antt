-- How a worker's pass and its list of verdicts change, job by job.
use Rattle.std.specs.Prelude.{ℕ, ◌≡◌, List, ◌++◌, All, Contains}
use Rattle.oberon_claims.specs.Pass.{PassRecord}
use Rattle.oberon_format.specs.Recording.{RecordingParts, IsLawfulWithDisk, last_of}
use Rattle.oberon_check.specs.declared.collector.CollectFault.{CollectFault}
use Rattle.oberon_check.specs.declared.verdict.Verdict.{Verdict}
use Rattle.oberon_check.specs.Collecting.{IsCollectFault}
use Rattle.oberon_check.specs.Gathering.{IsGathered}
use Rattle.oberon_check.specs.Segment.{SegmentVerdictRecord, IsSeries, IsTrueSegmentVerdict}
use Rattle.oberon_check.specs.Verdict.{IsVerdict}
use Rattle.oberon_check.specs.Work.{IsJob, failed_of, DoneRecord}

-- the share with this recording, cut, pass and verdicts
abbrev pub done_record : RecordingParts → ℕ → PassRecord → List SegmentVerdictRecord → DoneRecord
done_record r cut p vs = record { recording = r; cut = cut; pass = p; verdicts = vs }

-- from pass p and verdicts vs to pass q and verdicts ws by one more job, whose verdicts are `piece`
pub record AddsJob (r : RecordingParts) (cut job : ℕ) (p q : PassRecord) (vs ws : List SegmentVerdictRecord) : Type 0 where
  pub book : q.book ≡ p.book
  pub taken : q.taken ≡ p.taken
  pub ended : q.ended ≡ p.ended
  pub shown : (x : ℕ) → Contains p.shown x → Contains q.shown x
  pub piece : List SegmentVerdictRecord
  pub verdicts : ws ≡ vs ++ piece
  pub reported : q.reported ≡ p.reported ++ failed_of piece
  pub recordings : All (λ v. v.recording ≡ r) piece
  pub is_job : IsJob (last_of r) cut q.shown job piece

-- from pass p and verdicts vs to pass q and verdicts ws by one more series of verdicts, `piece`
pub record AddsSeries (r : RecordingParts) (first end : ℕ) (p q : PassRecord) (vs ws : List SegmentVerdictRecord) : Type 0 where
  pub book : q.book ≡ p.book
  pub taken : q.taken ≡ p.taken
  pub ended : q.ended ≡ p.ended
  pub shown : q.shown ≡ p.shown
  pub piece : List SegmentVerdictRecord
  pub verdicts : ws ≡ vs ++ piece
  pub reported : q.reported ≡ p.reported ++ failed_of piece
  pub recordings : All (λ v. v.recording ≡ r) piece
  pub is_series : IsSeries first end piece

-- from pass p to pass q by a look
pub record IsLooked (p q : PassRecord) : Type 0 where
  pub book : q.book ≡ p.book
  pub taken : q.taken ≡ p.taken
  pub reported : q.reported ≡ p.reported
  pub ended : q.ended ≡ p.ended
  pub shown : (x : ℕ) → Contains p.shown x → Contains q.shown x

-- the segment verdicts are of this recording, and have no fault; and if they are true, any verdict that follows from them is as
-- `IsGathered` says of the shares
pub record AreCollected (r : RecordingParts) (done : List DoneRecord) (verdicts : List SegmentVerdictRecord) : Type 0 where
  pub recordings : All (λ v. v.recording ≡ r) verdicts
  pub whole : (fault : CollectFault) → ¬ (IsCollectFault r verdicts fault)
  pub gathered : IsLawfulWithDisk r → All IsTrueSegmentVerdict verdicts → (verdict : Verdict) → IsVerdict r verdict → IsGathered r done verdict
