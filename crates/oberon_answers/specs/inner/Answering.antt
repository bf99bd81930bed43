-- The answer to a recording that is checked, and to bytes that are not a recording.
use Rattle.std.specs.Prelude.{ℕ, ◌≡◌, ◌<◌, List, length}
use Rattle.oberon_format.specs.Line.{fault_line}
use Rattle.oberon_format.specs.Recording.{RecordingParts}
use Rattle.oberon_format.specs.declared.fault.Fault.{Fault}
use Rattle.oberon_check.specs.Line.{line_of, status_of}
use Rattle.oberon_check.specs.Verdict.{IsVerdict}
use Rattle.oberon_check.specs.declared.verdict.Verdict.{Verdict}

-- the line and the status of a fault
pub record IsFaultAnswer (fault : Fault) (line : List ℕ) (status : ℕ) : Type 0 where
  pub line_is : line ≡ fault_line fault
  pub status_is : status ≡ 2
  pub short : length line < 256

-- the line and the status of the verdict on a recording
pub record IsVerdictAnswer (r : RecordingParts) (line : List ℕ) (status : ℕ) : Type 0 where
  pub verdict : Verdict
  pub is_verdict : IsVerdict r verdict
  pub line_is : line ≡ line_of verdict
  pub status_is : status ≡ status_of verdict
  pub short : length line < 256
