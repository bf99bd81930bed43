-- Laws of the definitions of a check.
use Rattle.std.specs.Prelude.{◌≡◌, ◌≢◌, ◌↔◌, ℕ, List, ◌≤◌, None, Some, codes}
use Rattle.oberon_format.specs.declared.layout.TheConstants.{VERSION_WITH_DISK}
use Rattle.oberon_format.specs.Recording.{RecordingParts, IsLawfulWithDisk, last_of}
use Rattle.oberon_format.specs.Text.{AreBytes, IsEncoding}
use Rattle.oberon_format.specs.Layout.{version}
use Rattle.oberon_format.specs.Defined.{Outcome, claimed, defined, IsTrueAt}
use Rattle.oberon_check.specs.declared.part.Part.{Part}
use Rattle.oberon_check.specs.declared.verdict.Verdict.{Verdict}
use Rattle.oberon_check.specs.Difference.{first_difference, IsFirstDifference}
use Rattle.oberon_check.specs.Verdict.{IsVerdict}
use Rattle.oberon_check.specs.declared.versions.Versions.{Versions}
use Rattle.oberon_check.specs.Headline.{IsLineOf}
use Rattle.oberon_check.specs.Versions.{IsMigratedIn}
use Rattle.oberon_check.specs.HeadlineWithDisk.{IsLineIn, IsLineOfWithDisk}

-- the first part in which two outcomes differ is the one whose test fails and before which each test holds
abbrev pub FirstDifference : Type 0
FirstDifference = (x y : Outcome) (part : Part) → (first_difference x y ≡ Some part) ↔ IsFirstDifference x y part

-- a checkpoint of a lawful recording, with or without a disk, is true exactly if no part of what it claims differs from what the run gives
abbrev pub NoDifference : Type 0
NoDifference =
    (r : RecordingParts) → IsLawfulWithDisk r → (k : ℕ) → k ≤ last_of r
    → (first_difference (claimed r k) (defined r k) ≡ None) ↔ IsTrueAt r k

-- a lawful recording, with or without a disk, has exactly one verdict
abbrev pub OneVerdict : Type 0
OneVerdict =
    (r : RecordingParts) → IsLawfulWithDisk r
    → (verdict : Verdict) × IsVerdict r verdict × ((other : Verdict) → IsVerdict r other → other ≡ verdict)

-- any bytes have exactly one line with one status, in each choice of versions. So the answer of a check depends on neither workers
-- nor cut
abbrev pub OneLine : Type 0
OneLine =
    (versions : Versions) (bytes : List ℕ) → AreBytes bytes
    → (line : List ℕ) × (status : ℕ) × IsLineIn versions bytes line status
    × ((other : List ℕ) (number : ℕ) → IsLineIn versions bytes other number → (other ≡ line) × (number ≡ status))

-- the line and the status of migrated bytes are those of the original bytes
abbrev pub SameLine : Type 0
SameLine =
    (versions : Versions) (bytes migrated : List ℕ) → AreBytes bytes → AreBytes migrated → IsMigratedIn versions bytes migrated
    → (line : List ℕ) (status : ℕ) → IsLineIn versions bytes line status ↔ IsLineIn versions migrated line status

-- bytes of any version but 3 have the same line and status with a disk as without
abbrev pub SameLineWithDisk : Type 0
SameLineWithDisk =
    (bytes : List ℕ) → version bytes ≢ VERSION_WITH_DISK
    → (line : List ℕ) (status : ℕ) → IsLineOf bytes line status ↔ IsLineOfWithDisk bytes line status

-- a text of version 3 is refused without a disk
abbrev pub RefusedWithoutDisk : Type 0
RefusedWithoutDisk =
    (bytes : List ℕ) → AreBytes bytes → (r : RecordingParts) → IsEncoding VERSION_WITH_DISK bytes r
    → IsLineOf bytes (codes "refused 3 version at byte 4\n") 2
