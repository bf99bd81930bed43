-- The check of a recording by the past of its run. What is true, and what a verdict is, `oberon_check` defines. That a check is
-- done in steps, and that one that is asked to go on rests on what an earlier one said, is this project's own choice.
use Rattle.std.specs.Prelude.{ℕ, ◌≡◌, ◌≢◌, ◌⊎◌, ◌+◌, ◌-◌, ◌<◌, ◌≤◌, IfSome, Option, None, Some, length, take, ⊤}
use Rattle.oberon_format.specs.Defined.{IsTrueAt, claimed, defined, output_between}
use Rattle.oberon_format.specs.Recording.{RecordingParts, count_at}
use Rattle.oberon_session.specs.Extended.{last_count}
use Rattle.oberon_check.specs.Verdict.{IsVerdict}
use Rattle.oberon_past.specs.Live.{inputs_before}
use Rattle.oberon_past.specs.Run.{Run}
use Rattle.oberon_past.specs.Past.{PastParts}
use Rattle.oberon_past.specs.declared.checked.CheckFault.{CheckFault}
use Rattle.oberon_past.specs.declared.checked.CheckFault.TheVariants as fault
use Rattle.oberon_past.specs.declared.checked.CheckProgress.{CheckProgress}
use Rattle.oberon_past.specs.declared.checked.Checked.{Checked}
use Rattle.oberon_past.specs.declared.checked.Checked.TheVariants as checked

-- the run is that of a recording: it begins at count 0 with the recording's initial state, and takes its inputs before the last
-- checkpoint
pub record IsRunOf (r : RecordingParts) (run : Run) : Type 0 where
  pub starts : run.start ≡ 0
  pub first : (claimed r 0).state ≡ run.first
  pub inputs : inputs_before (last_count r) r.inputs ≡ inputs_before (last_count r) run.inputs

-- ---- how far a check is

-- the checkpoints after checkpoint 0 and before checkpoint k are true
abbrev pub AreTrueBefore : RecordingParts → ℕ → Type 0
AreTrueBefore r k = (j : ℕ) → 0 < j → j < k → IsTrueAt r j

-- the bytes that the run sends from the checkpoint before checkpoint k up to count n are the first m of those that checkpoint k
-- claims; or the bytes that it sends up to checkpoint k are not those that the checkpoint claims
abbrev pub IsSentUpTo : RecordingParts → ℕ → ℕ → Option ℕ → Type 0
IsSentUpTo r k n (Some m) = output_between r (count_at r (k - 1)) n ≡ take m (claimed r k).sent
IsSentUpTo r k n None = (defined r k).sent ≢ (claimed r k).sent

-- a progress is one of a recording: it has such a checkpoint after checkpoint 0, the count is not before that of the checkpoint
-- before and not after its own, and it claims as many bytes
pub record IsProgress (r : RecordingParts) (p : CheckProgress) : Type 0 where
  pub above : 0 < p.checkpoint
  pub inside : p.checkpoint < length r.checkpoints
  pub begun : count_at r (p.checkpoint - 1) ≤ p.count
  pub on : p.count ≤ count_at r p.checkpoint
  pub sent : IfSome p.sent (λ m. m ≤ length (claimed r p.checkpoint).sent)

-- what a progress says is true
pub record IsTrueProgress (r : RecordingParts) (p : CheckProgress) : Type 0 where
  pub before : AreTrueBefore r p.checkpoint
  pub sent : IsSentUpTo r p.checkpoint p.count p.sent

-- ---- answers

-- why a check is refused: the first rule that is broken
abbrev pub IsCheckFault : PastParts → RecordingParts → Option CheckProgress → CheckFault → Type 0
IsCheckFault p r from fault.Later = p.end < last_count r
IsCheckFault p r from fault.Progress = (last_count r ≤ p.end) × ¬ (IfSome from (IsProgress r))
IsCheckFault p r from fault.OtherRun = (last_count r ≤ p.end) × IfSome from (IsProgress r) × ¬ (IsRunOf r p.run)

-- the recording is one of the past, and the progress is one of the recording. Without one the check begins
pub record IsCheckable (p : PastParts) (r : RecordingParts) (from : Option CheckProgress) : Type 0 where
  pub inside : last_count r ≤ p.end
  pub progress : IfSome from (IsProgress r)
  pub run : IsRunOf r p.run

-- what a check says, if the progress from which it begins is true: the verdict on the recording; or another progress, which is true
abbrev pub IsChecked : PastParts → RecordingParts → Option CheckProgress → Checked → Type 0
IsChecked p r from (checked.Done verdict) = IsCheckable p r from × (IfSome from (IsTrueProgress r) → IsVerdict r verdict)
IsChecked p r from (checked.More next) = IsCheckable p r from × IsProgress r next × (IfSome from (IsTrueProgress r) → IsTrueProgress r next)
IsChecked p r from (checked.Refused fault) = IsCheckFault p r from fault

-- ---- checks that end

-- where a check begins that has no progress: before the run up to checkpoint 1
abbrev pub check_start : Option CheckProgress → CheckProgress
check_start None = record { checkpoint = 1; count = 0; sent = Some 0 }
check_start (Some p) = p

-- a progress is further: a later checkpoint or count; or it says that the bytes sent are others, and the first one did not
abbrev pub IsFurther : CheckProgress → CheckProgress → Type 0
IsFurther from next =
    (from.checkpoint + from.count < next.checkpoint + next.count)
    ⊎ ((next.checkpoint ≡ from.checkpoint) × (next.count ≡ from.count) × (from.sent ≢ None) × (next.sent ≡ None))

-- what a check leaves: to be gone on with, at least one keyframe more, or a progress that is further; refused, all as it was
abbrev pub LeavesChecked : PastParts → PastParts → Option CheckProgress → Checked → Type 0
LeavesChecked old new from (checked.Done verdict) = ⊤
LeavesChecked old new from (checked.More next) = (old.keyframes < new.keyframes) ⊎ IsFurther (check_start from) next
LeavesChecked old new from (checked.Refused fault) = new ≡ old
