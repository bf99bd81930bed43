-- A recording of a past, as a caller asks for it and gets it. That it is made in steps is this project's own choice.
use Rattle.std.specs.Prelude.{ℕ, ◌≡◌, ◌+◌, ◌-◌, ◌<◌, ◌≤◌, List, length, slice_index_or}
use Rattle.std.specs.List.{All}
use Rattle.oberon_format.specs.Defined.{claimed}
use Rattle.oberon_format.specs.Recording.{RecordingParts, count_at}
use Rattle.oberon_format.specs.Text.{TextWithDisk}
use Rattle.oberon_session.specs.Extended.{IsBegun}
use Rattle.oberon_check.specs.declared.versions.Versions.TheVariants.{WithDisk}
use Rattle.oberon_answers.specs.Record.{IsAcceptedIn}
use Rattle.oberon_past.specs.Draft.{IsDraftFault, IsDraftOf, IsRecordingOf}
use Rattle.oberon_past.specs.Past.{PastParts}
use Rattle.oberon_past.specs.Run.{Run}
use Rattle.oberon_past.specs.declared.draft.Draft.{Draft}
use Rattle.oberon_past.specs.declared.draft_fault.DraftFault.{DraftFault}
use Rattle.galluspa.specs.Extend.{IsFile}

-- ---- what is asked

-- what is asked of a past is in its range: of the counts, as many as that are recorded, and there is a budget. The past begins at count 0,
-- as each recording does
pub record IsRecordQuestion (count recorded budget : ℕ) (p : PastParts) : Type 0 where
  pub inside : recorded ≤ count
  pub some : 0 < budget
  pub starts : p.run.start ≡ 0

-- none of the counts is after the end
abbrev pub AreInside : List ℕ → PastParts → Type 0
AreInside counts p = All (λ n. n ≤ p.end) counts

-- ---- what is answered

-- the bytes are a recording of a run, in any version: it begins with the first state of the run and has its inputs before the last
-- checkpoint, and each checkpoint is true. A check accepts it
pub record IsTextOf (run : Run) (text : List ℕ) : Type 0 where
  pub recording : RecordingParts
  pub is_text : TextWithDisk text recording
  pub of_run : IsRecordingOf run recording
  pub accepted : IsAcceptedIn WithDisk recording text

-- the recording that a caller's bytes are; or, if there are none, that which begins with the first state of a run
pub record IsFirst (run : Run) (text : List ℕ) (r : RecordingParts) : Type 0 where
  pub begins : length text ≡ 0 → IsBegun run.first r × IsRecordingOf run r
  pub reads : 0 < length text → TextWithDisk text r

-- a recording with a checkpoint more at each of these counts, from the one with an index up to, but not including, that with another.
-- What it had stays as it was
pub record HasCheckpoints (old : RecordingParts) (counts : List ℕ) (from to : ℕ) (new : RecordingParts) : Type 0 where
  pub more : length new.checkpoints ≡ length old.checkpoints + (to - from)
  pub old_counts : (k : ℕ) → k < length old.checkpoints → count_at new k ≡ count_at old k
  pub old_claims : (k : ℕ) → k < length old.checkpoints → claimed new k ≡ claimed old k
  pub new_counts : (k : ℕ) → from + k < to → count_at new (length old.checkpoints + k) ≡ slice_index_or counts (from + k) 0

-- the second bytes are the recording of the first, or that which begins, with a checkpoint more at each of some counts. One that begins is
-- of the run, and so is one that is made of one of the run
pub record HasRecorded (run : Run) (text counts : List ℕ) (from to : ℕ) (new_text : List ℕ) : Type 0 where
  pub old : RecordingParts
  pub first : IsFirst run text old
  pub new : RecordingParts
  pub checkpoints : HasCheckpoints old counts from to new
  pub text_is : IsFile new_text new
  pub begun : length text ≡ 0 → IsTextOf run new_text
  pub on : IsTextOf run text → IsTextOf run new_text

-- ---- refusals

-- why a past is not recorded: a recording that is made of the bytes, with a checkpoint more at each of some counts, gets none at the next
-- count, for this fault. If the bytes are of the run, the draft has the bytes that the run sends
pub record HasDraftFault (p : PastParts) (text counts : List ℕ) (from : ℕ) (fault : DraftFault) : Type 0 where
  pub old : RecordingParts
  pub first : IsFirst p.run text old
  pub to : ℕ
  pub inside : (from ≤ to) × (to < length counts)
  pub draft : Draft
  pub checkpoints : HasCheckpoints old counts from to draft.recording
  pub truth : IsRecordingOf p.run old → IsDraftOf p.run draft
  pub is_fault : IsDraftFault p draft (slice_index_or counts to 0) fault
