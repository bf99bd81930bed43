-- What a past says of a recording, and why it says nothing.
use Rattle.std.specs.Prelude.{ℕ, ◌≡◌, ◌⊎◌, ◌<◌, ◌≤◌, IfSome, List, Option, ⊤}
use Rattle.oberon_format.specs.Recording.{RecordingParts}
use Rattle.oberon_format.specs.Text.{TextWithDisk}
use Rattle.oberon_check.specs.Line.{line_of, status_of}
use Rattle.oberon_check.specs.Verdict.{IsVerdict}
use Rattle.oberon_check.specs.declared.verdict.Verdict.{Verdict}
use Rattle.oberon_session.specs.Extended.{last_count}
use Rattle.oberon_past.specs.Check.{IsCheckable, IsFurther, IsProgress, IsTrueProgress, check_start}
use Rattle.oberon_past.specs.Past.{PastParts}
use Rattle.oberon_past.specs.declared.checked.CheckProgress.{CheckProgress}
use Rattle.galluspa.specs.Claim.{IsNoRecording}
use Rattle.galluspa.specs.PastCheck.{IsRecordingThat}
use Rattle.galluspa.specs.declared.past_check.Reply.{Reply}
use Rattle.galluspa.specs.declared.past_check.Reply.TheVariants as reply
use Rattle.galluspa.specs.declared.past_check.Unchecked.{Unchecked}
use Rattle.galluspa.specs.declared.past_check.Unchecked.TheVariants as unchecked

-- this is the line of the verdict, and its status
abbrev pub IsVerdictLine : RecordingParts → List ℕ → ℕ → Type 0
IsVerdictLine r line status = (verdict : Verdict) × IsVerdict r verdict × (line ≡ line_of verdict) × (status ≡ status_of verdict)

-- what is said of a recording, if the progress from which the check began is true
abbrev pub IsReply : RecordingParts → Option CheckProgress → Reply → Type 0
IsReply r from (reply.Line answer) = IfSome from (IsTrueProgress r) → IsVerdictLine r answer.bytes.items answer.status
IsReply r from (reply.More next) = IsProgress r next × (IfSome from (IsTrueProgress r) → IsTrueProgress r next)

-- what a reply leaves
abbrev pub LeavesReply : PastParts → PastParts → Option CheckProgress → Reply → Type 0
LeavesReply old new from (reply.Line answer) = ⊤
LeavesReply old new from (reply.More next) = (old.keyframes < new.keyframes) ⊎ IsFurther (check_start from) next

-- why nothing is said of a recording
abbrev pub IsUnchecked : PastParts → RecordingParts → Option CheckProgress → Unchecked → Type 0
IsUnchecked p r from unchecked.Range = (last_count r ≤ p.end) × ¬ (IsCheckable p r from)
IsUnchecked p r from unchecked.Later = p.end < last_count r
IsUnchecked p r from unchecked.Recording = ⊥
IsUnchecked p r from unchecked.Memory = last_count r ≤ p.end
