-- What `record` answers.
use Rattle.std.specs.Prelude.{◌≡◌, ◌⊎◌, ℕ, List, Option, Some, None, ◌++◌, codes}
use Rattle.std.specs.Fmt.{decimal}
use Rattle.oberon_format.specs.Recording.{RecordingParts, count_at, last_of}
use Rattle.oberon_format.specs.Text.{IsEncoding}
use Rattle.oberon_check.specs.declared.versions.Versions.{Versions}
use Rattle.oberon_check.specs.declared.versions.Versions.TheVariants.{WithoutDisk, WithDisk}
use Rattle.oberon_check.specs.Versions.{last_version}
use Rattle.oberon_check.specs.HeadlineWithDisk.{IsLineIn}
use Rattle.oberon_check.specs.Line.{line_of}
use Rattle.oberon_check.specs.declared.verdict.Verdict.TheVariants.{Accepted}
use Rattle.oberon_session.specs.FaultNames.{record_fault_name, record_fault_number, session_fault_name, session_fault_number}
use Rattle.oberon_session.specs.Recorded.{record_fault_of, recording_of}
use Rattle.oberon_session.specs.Session.{Breaks, BreaksWithDisk, IsSession, IsSessionWithDisk}
use Rattle.oberon_session.specs.SessionParts.{SessionParts}
use Rattle.oberon_session.specs.declared.fault.SessionFault.{SessionFault}
use Rattle.oberon_session.specs.declared.record_fault.RecordFault.{RecordFault}

-- the line of a refusal: what is refused, the number and the name of its fault, and a line feed
abbrev pub refused_line : List ℕ → ℕ → List ℕ → List ℕ
refused_line what number name = what ++ (codes " refused " ++ (decimal number ++ (codes " " ++ (name ++ codes "\n"))))

-- the line of a fault, and the status 2. An allocation failure has no number, and so no line
pub record IsRefusal (what : List ℕ) (number : Option ℕ) (name output : List ℕ) (status : ℕ) : Type 0 where
  pub known : ℕ
  pub number_is : number ≡ Some known
  pub line_is : output ≡ refused_line what known name
  pub status_is : status ≡ 2

-- the check of the recording's bytes in these versions answers `accepted`, with the number and the count of the last checkpoint
abbrev pub IsAcceptedIn : Versions → RecordingParts → List ℕ → Type 0
IsAcceptedIn versions r bytes = IsLineIn versions bytes (line_of (Accepted (last_of r) (count_at r (last_of r)))) 0

-- the same without a disk
abbrev pub IsAccepted : RecordingParts → List ℕ → Type 0
IsAccepted = IsAcceptedIn WithoutDisk

-- the bytes encode this session, in a version that has no disk, or in any
abbrev pub IsSessionIn : Versions → List ℕ → SessionParts → Type 0
IsSessionIn WithoutDisk = IsSession
IsSessionIn WithDisk = IsSessionWithDisk

-- this is the fault of the first rule that the bytes break
abbrev pub BreaksIn : Versions → List ℕ → SessionFault → Type 0
BreaksIn WithoutDisk = Breaks
BreaksIn WithDisk = BreaksWithDisk

-- the session's recording, in the last of these versions; all its checkpoints are true
pub record IsRecordingIn (versions : Versions) (session : SessionParts) (output : List ℕ) (status : ℕ) : Type 0 where
  pub no_fault : record_fault_of session ≡ None
  pub output_is : IsEncoding (last_version versions) output (recording_of session)
  pub accepted : IsAcceptedIn versions (recording_of session) output
  pub status_is : status ≡ 0

-- the session has no recording: the line of the recorder's fault
pub record IsUnrecorded (session : SessionParts) (output : List ℕ) (status : ℕ) : Type 0 where
  pub fault : RecordFault
  pub is_fault : record_fault_of session ≡ Some fault
  pub refusal : IsRefusal (codes "record") (record_fault_number fault) (record_fault_name fault) output status

-- the answer to a session
abbrev pub IsRecordOfIn : Versions → SessionParts → List ℕ → ℕ → Type 0
IsRecordOfIn versions session output status = IsRecordingIn versions session output status ⊎ IsUnrecorded session output status

-- the input is a session, and this is the answer to it
pub record IsReadRecordIn (versions : Versions) (input output : List ℕ) (status : ℕ) : Type 0 where
  pub session : SessionParts
  pub read : IsSessionIn versions input session
  pub record_is : IsRecordOfIn versions session output status

-- the input is not a session: the line of the first rule that it breaks
pub record IsNoSessionIn (versions : Versions) (input output : List ℕ) (status : ℕ) : Type 0 where
  pub fault : SessionFault
  pub first : BreaksIn versions input fault
  pub refusal : IsRefusal (codes "session") (session_fault_number fault) (session_fault_name fault) output status

-- the answer to an input: the answer to its session, or the line of its first fault
abbrev pub IsRecordIn : Versions → List ℕ → List ℕ → ℕ → Type 0
IsRecordIn versions input output status = IsReadRecordIn versions input output status ⊎ IsNoSessionIn versions input output status

-- the same without a disk
abbrev pub IsRecord : List ℕ → List ℕ → ℕ → Type 0
IsRecord = IsRecordIn WithoutDisk

-- the answer to an input of any version: as without a disk, if it is a session without one, and else as with one
abbrev pub IsRecordOfAny : List ℕ → List ℕ → ℕ → Type 0
IsRecordOfAny input output status =
    IsReadRecordIn WithoutDisk input output status
    ⊎ (((session : SessionParts) → ¬ (IsSession input session)) × IsRecordIn WithDisk input output status)
