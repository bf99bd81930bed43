-- The check of one piece of a run after the other.
use Rattle.std.specs.Prelude.{ℕ, ◌≡◌, ◌⊎◌, ◌<◌, ◌≤◌, IfSome, Option, Some, ⊤}
use Rattle.risc_model.specs.MachineState.{State}
use Rattle.oberon_format.specs.Defined.{state_at}
use Rattle.oberon_format.specs.Recording.{RecordingParts, count_at}
use Rattle.oberon_check.specs.Verdict.{IsVerdict}
use Rattle.oberon_past.specs.Check.{IsFurther, IsProgress, IsTrueProgress}
use Rattle.oberon_past.specs.declared.checked.CheckProgress.{CheckProgress}
use Rattle.oberon_past.specs.declared.checked.Checked.{Checked}
use Rattle.oberon_past.specs.declared.checked.Checked.TheVariants as checked

-- a machine at the count of a progress that is true
pub record IsAt (r : RecordingParts) (p : CheckProgress) (s : State) : Type 0 where
  pub state : s ≡ state_at r p.count
  pub truth : IsTrueProgress r p

-- what is said of a recording
abbrev pub IsSaid : RecordingParts → Checked → Type 0
IsSaid r (checked.Done verdict) = IsVerdict r verdict
IsSaid r (checked.More next) = IsTrueProgress r next
IsSaid r (checked.Refused fault) = ⊥

-- a verdict, or a progress
abbrev pub IsAnswered : RecordingParts → Checked → Type 0
IsAnswered r (checked.Done verdict) = ⊤
IsAnswered r (checked.More next) = IsProgress r next
IsAnswered r (checked.Refused fault) = ⊥

-- a verdict, or a progress further than one
abbrev pub GoesOn : RecordingParts → CheckProgress → Checked → Type 0
GoesOn r from (checked.Done verdict) = ⊤
GoesOn r from (checked.More next) = IsProgress r next × IsFurther from next
GoesOn r from (checked.Refused fault) = ⊥

-- a verdict, or a progress, and the machine has come to its count if its bytes are those that the checkpoint claims
abbrev pub HasCome : RecordingParts → State → Checked → Type 0
HasCome r s (checked.Done verdict) = ⊤
HasCome r s (checked.More next) = IfSome next.sent (λ _. s ≡ state_at r next.count)
HasCome r s (checked.Refused fault) = ⊥

-- after the count of a progress is reached: a verdict; or the same progress, before its checkpoint; or that of the next checkpoint
abbrev pub IsPassed : RecordingParts → CheckProgress → Checked → Type 0
IsPassed r at (checked.Done verdict) = ⊤
IsPassed r at (checked.More next) =
    IsProgress r next × (next.count ≡ at.count)
    × (((next ≡ at) × (at.count < count_at r at.checkpoint)) ⊎ (at.checkpoint < next.checkpoint))
IsPassed r at (checked.Refused fault) = ⊥
