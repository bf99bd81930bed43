-- The check of a recording by a past behind a handle (this project's own choice).
use Rattle.std.specs.Prelude.{ℕ, ◌≡◌, ◌⊎◌, ◌<◌, ◌≤◌, ◌==◌, IfSome, List, Option, None, Some, if◌then◌else◌}
use Rattle.oberon_format.specs.Recording.{RecordingParts}
use Rattle.oberon_format.specs.Text.{TextWithDisk}
use Rattle.oberon_session.specs.Extended.{last_count}
use Rattle.oberon_past.specs.Check.{IsCheckable, IsFurther, IsTrueProgress, check_start}
use Rattle.oberon_past.specs.Past.{PastParts}
use Rattle.oberon_past.specs.declared.checked.CheckProgress.{CheckProgress}
use Rattle.galluspa.specs.declared.past_check.RawProgress.{RawProgress}

-- how far a check is, as a caller keeps it. Checkpoint 0 stands for a check that is to begin
abbrev pub progress_of : RawProgress → Option CheckProgress
progress_of raw =
    if raw.checkpoint == 0 then None
    else Some (record { checkpoint = raw.checkpoint; count = raw.count; sent = if raw.differs == 0 then Some raw.sent else None })

-- what a progress says is true of the recording that the bytes are
abbrev pub IsTrueIn : List ℕ → RawProgress → Type 0
IsTrueIn text raw = (r : RecordingParts) → TextWithDisk text r → IfSome (progress_of raw) (IsTrueProgress r)

-- the bytes are such a recording
pub record IsRecordingThat (Is : RecordingParts → Type 0) (text : List ℕ) : Type 0 where
  pub recording : RecordingParts
  pub is_text : TextWithDisk text recording
  pub is : Is recording

-- the bytes are a recording that a past can check from a progress on: its last checkpoint is not after the end, the past is of its
-- run, and the progress is one of it
abbrev pub CanCheck : List ℕ → RawProgress → PastParts → Type 0
CanCheck text raw p = IsRecordingThat (λ r. IsCheckable p r (progress_of raw)) text

-- the bytes are a recording whose last checkpoint is after the end of a past
abbrev pub EndsLater : List ℕ → PastParts → Type 0
EndsLater text p = IsRecordingThat (λ r. p.end < last_count r) text

-- the bytes are a recording whose last checkpoint is not after the end of a past, but it is of another run, or the progress is not
-- one of it
abbrev pub IsOfAnother : List ℕ → RawProgress → PastParts → Type 0
IsOfAnother text raw p = IsRecordingThat (λ r. (last_count r ≤ p.end) × ¬ (IsCheckable p r (progress_of raw))) text

-- a check has come further: at least one keyframe more, or a progress that is further
abbrev pub ComesFurther : RawProgress → RawProgress → PastParts → PastParts → Type 0
ComesFurther raw next old new =
    (old.keyframes < new.keyframes) ⊎ IfSome (progress_of next) (λ (p : CheckProgress). IsFurther (check_start (progress_of raw)) p)
