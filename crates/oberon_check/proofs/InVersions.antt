-- Files and their lines in the versions that a call takes.
use Rattle.std.proofs.Common.{◌≡◌, ◌≢◌, ◌<◌, ◌^◌, ℕ, List, Fits, Some, Err, Ok, arith, get_or, inl, inr, refl, w8}
use Rattle.std.proofs.lemmas.List.Elements.{All-from_get_or}
use Rattle.std.specs.Prelude.{IfSome, MatchOption}
use Rattle.oberon_format.specs.declared.fault.Fault.{Fault}
use Rattle.oberon_format.specs.Recording.{RecordingParts, IsLawfulWithDisk}
use Rattle.oberon_format.specs.declared.layout.TheConstants.{VERSION, VERSION_WITH_DISK}
use Rattle.oberon_format.specs.Text.{AreBytes, IsEncoding, TextWithDisk}
use Rattle.oberon_format.specs.Line.{IsNamedFault, fault_line}
use Rattle.oberon_format.specs.Laws.{HasOneRecordingWithDisk, HasFileOrFault, HasFileOrFaultWithDisk}
use Rattle.oberon_format.proofs.Named.{fault_named, fault_with_disk_named}
use Rattle.oberon_format.proofs.PlainLemmas.{with_disk}
use Rattle.oberon_check.specs.declared.verdict.Verdict.{Verdict}
use Rattle.oberon_check.specs.declared.versions.Versions.{Versions}
use Rattle.oberon_check.specs.declared.versions.Versions.TheVariants.{WithoutDisk, WithDisk}
use Rattle.oberon_check.specs.Verdict.{IsVerdict}
use Rattle.oberon_check.specs.Line.{line_of, status_of}
use Rattle.oberon_check.specs.Versions.{AnswersBytesIn, TextIn, first_fault_in, last_version}
use Rattle.oberon_check.specs.HeadlineWithDisk.{IsLineIn, IsLineOfFaultIn}

-- ---- files

pub any_text : (v : Versions) (bytes : List ℕ) (r : RecordingParts) → TextIn v bytes r → TextWithDisk bytes r
any_text WithoutDisk bytes r text = with_disk bytes r text
any_text WithDisk bytes r text = text

pub last_text : (v : Versions) (bytes : List ℕ) (r : RecordingParts) → IsEncoding (last_version v) bytes r → TextIn v bytes r
last_text WithoutDisk bytes r is = record { version = VERSION; without = refl; is = is }
last_text WithDisk bytes r is = record { version = VERSION_WITH_DISK; is = is }

pub lawful_in : (v : Versions) (bytes : List ℕ) (r : RecordingParts) → TextIn v bytes r → IsLawfulWithDisk r
lawful_in v bytes r text = (any_text v bytes r text).is.lawful

-- bytes are those of at most one recording
abbrev pub HasOneIn : Versions → Type 0
HasOneIn v = (bytes : List ℕ) (r s : RecordingParts) → TextIn v bytes r → TextIn v bytes s → r ≡ s

pub one_in : HasOneRecordingWithDisk → (v : Versions) → HasOneIn v
one_in one v bytes r s a b = one bytes r s (any_text v bytes r a) (any_text v bytes s b)

-- bytes are those of a recording if and only if they have no first fault
abbrev pub HasEitherIn : Versions → Type 0
HasEitherIn v = (bytes : List ℕ) → AreBytes bytes
    → MatchOption (first_fault_in v bytes) ((r : RecordingParts) × TextIn v bytes r) (λ fault. (r : RecordingParts) → ¬ (TextIn v bytes r))

pub either_in : HasFileOrFault → HasFileOrFaultWithDisk → (v : Versions) → HasEitherIn v
either_in without also WithoutDisk = without
either_in without also WithDisk = also

-- the first fault is not an allocation failure
pub named_in : (v : Versions) (bytes : List ℕ) → IfSome (first_fault_in v bytes) IsNamedFault
named_in WithoutDisk = fault_named
named_in WithDisk = fault_with_disk_named

-- ---- answers

-- a list of bytes, as the type of a slice says
pub all_bytes : (bytes : List ℕ) → ((k : ℕ) → Fits w8 (get_or bytes k 0)) → AreBytes bytes
all_bytes bytes fits = All-from_get_or (λ (byte : ℕ). byte < 2 ^ 8) bytes 0 (λ k inside. (fits k).fits)

pub good-answer : {A : Type 0} (v : Versions) (bytes : List ℕ) (IsGood : A → Type 0) (answer : A) → AnswersBytesIn v bytes IsGood (Ok answer) → IsGood answer
good-answer v bytes IsGood answer is = search arith

pub first-fault : {A : Type 0} (v : Versions) (bytes : List ℕ) (IsGood : A → Type 0) (why : Fault) → AnswersBytesIn v bytes IsGood (Err why)
    → why ≢ Fault.Memory → first_fault_in v bytes ≡ Some why
first-fault v bytes IsGood why answer other = search arith

-- ---- lines

pub verdict-line : (v : Versions) (bytes : List ℕ) (r : RecordingParts) → TextIn v bytes r → (verdict : Verdict) → IsVerdict r verdict → (line : List ℕ) (status : ℕ)
    → line ≡ line_of verdict → status ≡ status_of verdict → IsLineIn v bytes line status
verdict-line WithoutDisk bytes r text verdict is line status line_is status_is =
    inl (record { recording = r; is_text = text; verdict = verdict; is_verdict = is; line_is = line_is; status_is = status_is })
verdict-line WithDisk bytes r text verdict is line status line_is status_is =
    inl (record { recording = r; is_text = text; verdict = verdict; is_verdict = is; line_is = line_is; status_is = status_is })

pub fault-line : (v : Versions) (bytes : List ℕ) (fault : Fault) → first_fault_in v bytes ≡ Some fault → (line : List ℕ) (status : ℕ)
    → line ≡ fault_line fault → status ≡ 2 → IsLineOfFaultIn v bytes line status
fault-line WithoutDisk bytes fault first line status line_is status_is = record { fault = fault; is_first = first; line_is = line_is; status_is = status_is }
fault-line WithDisk bytes fault first line status line_is status_is = record { fault = fault; is_first = first; line_is = line_is; status_is = status_is }

pub fault-as-line : (v : Versions) (bytes line : List ℕ) (status : ℕ) → IsLineOfFaultIn v bytes line status → IsLineIn v bytes line status
fault-as-line WithoutDisk bytes line status is = inr is
fault-as-line WithDisk bytes line status is = inr is

-- what follows from the line of a recording
abbrev pub ByVerdict : Versions → List ℕ → List ℕ → ℕ → Type 0 → Type 0
ByVerdict v bytes line status Q =
    (r : RecordingParts) → TextIn v bytes r → (verdict : Verdict) → IsVerdict r verdict → line ≡ line_of verdict → status ≡ status_of verdict → Q

-- what follows from the line of a fault
abbrev pub ByFault : Versions → List ℕ → List ℕ → ℕ → Type 0 → Type 0
ByFault v bytes line status Q = (fault : Fault) → first_fault_in v bytes ≡ Some fault → line ≡ fault_line fault → status ≡ 2 → Q

pub by-fault : (v : Versions) (bytes line : List ℕ) (status : ℕ) (Q : Type 0) → ByFault v bytes line status Q → IsLineOfFaultIn v bytes line status → Q
by-fault WithoutDisk bytes line status Q of_fault is = of_fault is.fault is.is_first is.line_is is.status_is
by-fault WithDisk bytes line status Q of_fault is = of_fault is.fault is.is_first is.line_is is.status_is

pub by-line : (v : Versions) (bytes line : List ℕ) (status : ℕ) (Q : Type 0) → ByVerdict v bytes line status Q → ByFault v bytes line status Q
    → IsLineIn v bytes line status → Q
by-line WithoutDisk bytes line status Q of_verdict of_fault (inl a) = of_verdict a.recording a.is_text a.verdict a.is_verdict a.line_is a.status_is
by-line WithDisk bytes line status Q of_verdict of_fault (inl a) = of_verdict a.recording a.is_text a.verdict a.is_verdict a.line_is a.status_is
by-line WithoutDisk bytes line status Q of_verdict of_fault (inr b) = by-fault WithoutDisk bytes line status Q of_fault b
by-line WithDisk bytes line status Q of_verdict of_fault (inr b) = by-fault WithDisk bytes line status Q of_fault b
