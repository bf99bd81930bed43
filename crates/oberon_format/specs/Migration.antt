-- The migration of a file.
use Rattle.std.specs.Prelude.{ℕ, List}
use Rattle.oberon_format.specs.declared.layout.TheConstants.{VERSION, VERSION_WITH_DISK}
use Rattle.oberon_format.specs.Recording.{RecordingParts}
use Rattle.oberon_format.specs.Text.{Text, TextWithDisk, IsEncoding}

-- the file in version 2 of the recording of a file without a disk
pub record IsMigrated (bytes migrated : List ℕ) : Type 0 where
  pub recording : RecordingParts
  pub read : Text bytes recording
  pub written : IsEncoding VERSION migrated recording

-- the file in version 3 of the recording of a file
pub record IsMigratedWithDisk (bytes migrated : List ℕ) : Type 0 where
  pub recording : RecordingParts
  pub read : TextWithDisk bytes recording
  pub written : IsEncoding VERSION_WITH_DISK migrated recording
