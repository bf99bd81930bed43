-- Laws of recordings and their files. Each stands for a recording without a disk and its files in versions 1 and 2, and beside it for
-- any recording and its files in all versions.
use Rattle.std.specs.Prelude.{ℕ, ◌≡◌, ◌≤◌, ◌<◌, ◌↔◌, List, length, take, None, IfSome, MatchOption}
use Rattle.risc_model.specs.InputOrder.{AreOrdered}
use Rattle.risc_pages.specs.Pages.{ArePages}
use Rattle.oberon_format.specs.declared.layout.TheConstants.{LONGEST_RECORDING, LONGEST_WITH_DISK, VERSION, VERSION_WITH_DISK}
use Rattle.oberon_format.specs.Formed.{AreFormed, AreWritable, AreWritableWithDisk}
use Rattle.oberon_format.specs.Line.{IsNamedFault}
use Rattle.oberon_format.specs.Migration.{IsMigrated, IsMigratedWithDisk}
use Rattle.oberon_format.specs.PartFields.{fault_of_parts, fault_of_parts_with_disk}
use Rattle.oberon_format.specs.Recording.{RecordingParts, IsLawful, IsLawfulWithDisk}
use Rattle.oberon_format.specs.Layout.{version}
use Rattle.oberon_format.specs.Encoding.{encoding}
use Rattle.oberon_format.specs.Text.{AreBytes, IsEncoding, Text, TextWithDisk}
use Rattle.oberon_format.specs.ByteFields.{first_fault_of, first_fault_with_disk}

-- a file is that of at most one recording
abbrev pub HasOneRecording : Type 0
HasOneRecording = (bytes : List ℕ) (r s : RecordingParts) → Text bytes r → Text bytes s → r ≡ s

-- the same of files in all versions
abbrev pub HasOneRecordingWithDisk : Type 0
HasOneRecordingWithDisk = (bytes : List ℕ) (r s : RecordingParts) → TextWithDisk bytes r → TextWithDisk bytes s → r ≡ s

-- a recording has at most one file in each version
abbrev pub HasOneFileAtMost : Type 0
HasOneFileAtMost =
    (version : ℕ) (r : RecordingParts) (bytes other : List ℕ) → IsEncoding version bytes r → IsEncoding version other r
    → other ≡ bytes

-- a lawful recording has a file in the current version
abbrev pub HasOneFile : Type 0
HasOneFile = (r : RecordingParts) → IsLawful r → (bytes : List ℕ) × AreBytes bytes × IsEncoding VERSION bytes r

-- the same with a disk, in version 3
abbrev pub HasOneFileWithDisk : Type 0
HasOneFileWithDisk =
    (r : RecordingParts) → IsLawfulWithDisk r → (bytes : List ℕ) × AreBytes bytes × IsEncoding VERSION_WITH_DISK bytes r

-- reading what is written of a recording returns that recording
abbrev pub HasReadBack : Type 0
HasReadBack = (r s : RecordingParts) (bytes : List ℕ) → IsEncoding VERSION bytes r → Text bytes s → s ≡ r

-- the same of what is written in any version
abbrev pub HasReadBackWithDisk : Type 0
HasReadBackWithDisk =
    (version : ℕ) (r s : RecordingParts) (bytes : List ℕ) → IsEncoding version bytes r → TextWithDisk bytes s → s ≡ r

-- writing what was read returns the file that was read, if that has the current version
abbrev pub HasWrittenBack : Type 0
HasWrittenBack =
    (bytes other : List ℕ) (r : RecordingParts) → version bytes ≡ VERSION → Text bytes r → IsEncoding VERSION other r
    → other ≡ bytes

-- the same in any version, if that is the version of the file
abbrev pub HasWrittenBackWithDisk : Type 0
HasWrittenBackWithDisk =
    (bytes other : List ℕ) (r : RecordingParts) → TextWithDisk bytes r → IsEncoding (version bytes) other r → other ≡ bytes

-- migration is idempotent: a migrated file is its own migration
abbrev pub IsMigratedOnce : Type 0
IsMigratedOnce = (bytes migrated again : List ℕ) → IsMigrated bytes migrated → IsMigrated migrated again → again ≡ migrated

-- the same with a disk
abbrev pub IsMigratedOnceWithDisk : Type 0
IsMigratedOnceWithDisk =
    (bytes migrated again : List ℕ) → IsMigratedWithDisk bytes migrated → IsMigratedWithDisk migrated again → again ≡ migrated

-- a byte string is the file of a recording if and only if it has no first fault
abbrev pub HasFileOrFault : Type 0
HasFileOrFault =
    (bytes : List ℕ) → AreBytes bytes
    → MatchOption (first_fault_of bytes) ((r : RecordingParts) × Text bytes r) (λ fault. (r : RecordingParts) → ¬ (Text bytes r))

-- the same of files in all versions
abbrev pub HasFileOrFaultWithDisk : Type 0
HasFileOrFaultWithDisk =
    (bytes : List ℕ) → AreBytes bytes
    → MatchOption (first_fault_with_disk bytes) ((r : RecordingParts) × TextWithDisk bytes r)
    (λ fault. (r : RecordingParts) → ¬ (TextWithDisk bytes r))

-- the first fault of a file is one of the eight, and never an allocation failure
abbrev pub HasNamedFault : Type 0
HasNamedFault = (bytes : List ℕ) → IfSome (first_fault_of bytes) IsNamedFault

-- the same of files in all versions
abbrev pub HasNamedFaultWithDisk : Type 0
HasNamedFaultWithDisk = (bytes : List ℕ) → IfSome (first_fault_with_disk bytes) IsNamedFault

-- parts whose numbers fit their fields, lawful or not, have an encoding in bytes
abbrev pub HasFileOfParts : Type 0
HasFileOfParts = (r : RecordingParts) → AreWritable r → AreBytes (encoding VERSION r)

-- the same with a disk, in version 3
abbrev pub HasFileOfPartsWithDisk : Type 0
HasFileOfPartsWithDisk = (r : RecordingParts) → AreWritableWithDisk r → AreBytes (encoding VERSION_WITH_DISK r)

-- their encoding has the first fault of the parts
abbrev pub HasFaultOfParts : Type 0
HasFaultOfParts = (r : RecordingParts) → AreWritable r → first_fault_of (encoding VERSION r) ≡ fault_of_parts r

-- the same with a disk, in version 3
abbrev pub HasFaultOfPartsWithDisk : Type 0
HasFaultOfPartsWithDisk =
    (r : RecordingParts) → AreWritableWithDisk r → first_fault_with_disk (encoding VERSION_WITH_DISK r) ≡ fault_of_parts_with_disk r

-- no file of a recording is longer than the longest file
abbrev pub HasLongestFile : Type 0
HasLongestFile = (bytes : List ℕ) (r : RecordingParts) → Text bytes r → length bytes ≤ LONGEST_RECORDING

-- the same of files in all versions
abbrev pub HasLongestFileWithDisk : Type 0
HasLongestFileWithDisk = (bytes : List ℕ) (r : RecordingParts) → TextWithDisk bytes r → length bytes ≤ LONGEST_WITH_DISK

-- a longer file has the same first fault as when it is cut anywhere after that many bytes: it has a fault within them, and no
-- rule looks at a later byte
abbrev pub HasFaultWithin : Type 0
HasFaultWithin =
    (n : ℕ) (bytes : List ℕ) → LONGEST_RECORDING < n → n ≤ length bytes → first_fault_of (take n bytes) ≡ first_fault_of bytes

-- the same of files in all versions
abbrev pub HasFaultWithinWithDisk : Type 0
HasFaultWithinWithDisk =
    (n : ℕ) (bytes : List ℕ) → LONGEST_WITH_DISK < n → n ≤ length bytes
    → first_fault_with_disk (take n bytes) ≡ first_fault_with_disk bytes

-- parts are lawful if and only if they have no fault
abbrev pub IsMadeOfParts : Type 0
IsMadeOfParts =
    (r : RecordingParts) → ArePages r.pool → AreOrdered r.inputs → AreFormed r.checkpoints
    → (fault_of_parts r ≡ None) ↔ IsLawful r

-- the same with a disk
abbrev pub IsMadeOfPartsWithDisk : Type 0
IsMadeOfPartsWithDisk =
    (r : RecordingParts) → ArePages r.pool → AreOrdered r.inputs → AreFormed r.checkpoints
    → (fault_of_parts_with_disk r ≡ None) ↔ IsLawfulWithDisk r
