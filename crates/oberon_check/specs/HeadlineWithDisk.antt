-- The main theorem for the machine with a disk: that of `Headline`, for a file of version 3 too. This project's own choice.
use Rattle.std.specs.Prelude.{ℕ, ◌≡◌, ◌⊎◌, List, Some}
use Rattle.oberon_format.specs.declared.fault.Fault.{Fault}
use Rattle.oberon_format.specs.Recording.{RecordingParts}
use Rattle.oberon_format.specs.Text.{TextWithDisk}
use Rattle.oberon_format.specs.ByteFields.{first_fault_with_disk}
use Rattle.oberon_format.specs.Line.{fault_line}
use Rattle.oberon_check.specs.declared.verdict.Verdict.{Verdict}
use Rattle.oberon_check.specs.declared.versions.Versions.{Versions}
use Rattle.oberon_check.specs.declared.versions.Versions.TheVariants.{WithoutDisk, WithDisk}
use Rattle.oberon_check.specs.Verdict.{IsVerdict}
use Rattle.oberon_check.specs.Line.{line_of, status_of}
use Rattle.oberon_check.specs.Headline.{IsLineOf, IsLineOfFault}

-- the bytes encode a recording, and the line and the status are those of its verdict, which compares its checkpoints with
-- one uninterrupted run from checkpoint 0
pub record IsLineOfRecordingWithDisk (bytes line : List ℕ) (status : ℕ) : Type 0 where
  pub recording : RecordingParts
  pub is_text : TextWithDisk bytes recording
  pub verdict : Verdict
  pub is_verdict : IsVerdict recording verdict
  pub line_is : line ≡ line_of verdict
  pub status_is : status ≡ status_of verdict

-- the bytes encode no recording: they have a first fault, this is the line of the fault, and the status is 2
pub record IsLineOfFaultWithDisk (bytes line : List ℕ) (status : ℕ) : Type 0 where
  pub fault : Fault
  pub is_first : first_fault_with_disk bytes ≡ Some fault
  pub line_is : line ≡ fault_line fault
  pub status_is : status ≡ 2

-- this is the line and this is the status of a check of these bytes with a disk
abbrev pub IsLineOfWithDisk : List ℕ → List ℕ → ℕ → Type 0
IsLineOfWithDisk bytes line status = IsLineOfRecordingWithDisk bytes line status ⊎ IsLineOfFaultWithDisk bytes line status

-- the line and the status of a check that takes these versions
abbrev pub IsLineIn : Versions → List ℕ → List ℕ → ℕ → Type 0
IsLineIn WithoutDisk = IsLineOf
IsLineIn WithDisk = IsLineOfWithDisk

-- the line and the status of the first fault of bytes that must have one of these versions
abbrev pub IsLineOfFaultIn : Versions → List ℕ → List ℕ → ℕ → Type 0
IsLineOfFaultIn WithoutDisk = IsLineOfFault
IsLineOfFaultIn WithDisk = IsLineOfFaultWithDisk
