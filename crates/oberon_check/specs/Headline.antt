-- The main theorem: what the check of a recording file prints, and its exit status. This project's own choice.
use Rattle.std.specs.Prelude.{ℕ, ◌≡◌, ◌⊎◌, List, Some}
use Rattle.oberon_format.specs.declared.fault.Fault.{Fault}
use Rattle.oberon_format.specs.Recording.{RecordingParts}
use Rattle.oberon_format.specs.Text.{Text}
use Rattle.oberon_format.specs.ByteFields.{first_fault_of}
use Rattle.oberon_format.specs.Line.{fault_line}
use Rattle.oberon_check.specs.declared.verdict.Verdict.{Verdict}
use Rattle.oberon_check.specs.Verdict.{IsVerdict}
use Rattle.oberon_check.specs.Line.{line_of, status_of}

-- the bytes encode a recording, and the line and the status are those of its verdict, which compares its checkpoints with
-- one uninterrupted run from checkpoint 0
pub record IsLineOfRecording (bytes line : List ℕ) (status : ℕ) : Type 0 where
  pub recording : RecordingParts
  pub is_text : Text bytes recording
  pub verdict : Verdict
  pub is_verdict : IsVerdict recording verdict
  pub line_is : line ≡ line_of verdict
  pub status_is : status ≡ status_of verdict

-- the bytes encode no recording: they have a first fault, this is the line of the fault, and the status is 2
pub record IsLineOfFault (bytes line : List ℕ) (status : ℕ) : Type 0 where
  pub fault : Fault
  pub is_first : first_fault_of bytes ≡ Some fault
  pub line_is : line ≡ fault_line fault
  pub status_is : status ≡ 2

-- this is the line and this is the status of a check of these bytes
abbrev pub IsLineOf : List ℕ → List ℕ → ℕ → Type 0
IsLineOf bytes line status = IsLineOfRecording bytes line status ⊎ IsLineOfFault bytes line status
