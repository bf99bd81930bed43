-- What `migrate` answers.
use Rattle.std.specs.Prelude.{◌≡◌, ◌==◌, ◌⊎◌, ℕ, List, if◌then◌else◌}
use Rattle.oberon_format.specs.Layout.{version}
use Rattle.oberon_format.specs.Recording.{RecordingParts}
use Rattle.oberon_format.specs.Text.{IsEncoding, TextWithDisk}
use Rattle.oberon_format.specs.declared.layout.TheConstants.{VERSION, VERSION_WITH_DISK}
use Rattle.oberon_check.specs.declared.versions.Versions.{Versions}
use Rattle.oberon_check.specs.declared.versions.Versions.TheVariants.{WithoutDisk}
use Rattle.oberon_check.specs.Versions.{IsMigratedIn}
use Rattle.oberon_check.specs.HeadlineWithDisk.{IsLineOfFaultIn, IsLineOfFaultWithDisk}

-- the input is a recording in one of these versions, and the output is that recording in the last of them
pub record IsReadMigrationIn (versions : Versions) (input output : List ℕ) (status : ℕ) : Type 0 where
  pub migrated : IsMigratedIn versions input output
  pub status_is : status ≡ 0

-- the answer to an input: its migrated form, or the line of its first fault
abbrev pub IsMigrationIn : Versions → List ℕ → List ℕ → ℕ → Type 0
IsMigrationIn versions input output status = IsReadMigrationIn versions input output status ⊎ IsLineOfFaultIn versions input output status

-- the same without a disk
abbrev pub IsMigration : List ℕ → List ℕ → ℕ → Type 0
IsMigration = IsMigrationIn WithoutDisk

-- the version to which a file of any version is migrated if nobody chooses one: 3 for a file of version 3, else 2
abbrev pub next_version : List ℕ → ℕ
next_version input = if version input == VERSION_WITH_DISK then VERSION_WITH_DISK else VERSION

-- the input is a recording, and the output is that recording in this version
pub record IsReadMigrationOfAny (input output : List ℕ) (status : ℕ) : Type 0 where
  pub recording : RecordingParts
  pub read : TextWithDisk input recording
  pub written : IsEncoding (next_version input) output recording
  pub status_is : status ≡ 0

-- the answer to an input of any version
abbrev pub IsMigrationOfAny : List ℕ → List ℕ → ℕ → Type 0
IsMigrationOfAny input output status = IsReadMigrationOfAny input output status ⊎ IsLineOfFaultWithDisk input output status
