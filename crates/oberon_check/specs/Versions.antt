-- Which bytes are a recording file, in the versions that a call takes.
use Rattle.std.specs.Prelude.{ℕ, ◌≡◌, List, Option, MatchOption, Result, Err, MatchResult}
use Rattle.oberon_format.specs.declared.fault.Fault.{Fault}
use Rattle.oberon_format.specs.declared.layout.TheConstants.{VERSION, VERSION_WITH_DISK}
use Rattle.oberon_format.specs.declared.fault.Fault.TheVariants.{Memory}
use Rattle.oberon_format.specs.Recording.{RecordingParts}
use Rattle.oberon_format.specs.Text.{Text, TextWithDisk}
use Rattle.oberon_format.specs.ByteFields.{first_fault_of, first_fault_with_disk}
use Rattle.oberon_format.specs.Migration.{IsMigrated, IsMigratedWithDisk}
use Rattle.oberon_check.specs.declared.versions.Versions.{Versions}
use Rattle.oberon_check.specs.declared.versions.Versions.TheVariants.{WithoutDisk, WithDisk}

-- the bytes are a text of the recording in one of these versions
abbrev pub TextIn : Versions → List ℕ → RecordingParts → Type 0
TextIn WithoutDisk = Text
TextIn WithDisk = TextWithDisk

-- the first fault of a file that must have one of these versions, if it has a fault
abbrev pub first_fault_in : Versions → List ℕ → Option Fault
first_fault_in WithoutDisk = first_fault_of
first_fault_in WithDisk = first_fault_with_disk

-- the last of these versions
abbrev pub last_version : Versions → ℕ
last_version WithoutDisk = VERSION
last_version WithDisk = VERSION_WITH_DISK

-- the file in the last of these versions of the recording of a file in one of them
abbrev pub IsMigratedIn : Versions → List ℕ → List ℕ → Type 0
IsMigratedIn WithoutDisk = IsMigrated
IsMigratedIn WithDisk = IsMigratedWithDisk

-- an answer to a file: if the file has no fault, a good one or an allocation failure; else its first fault
abbrev pub AnswersBytesIn : {Answer : Type 0} → Versions → List ℕ → (Answer → Type 0) → Result Answer Fault → Type 0
AnswersBytesIn versions bytes IsGood answer =
    MatchOption (first_fault_in versions bytes) (MatchResult answer IsGood (λ f. f ≡ Memory)) (λ f. answer ≡ Err f)
