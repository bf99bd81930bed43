-- What `screen` answers.
use Rattle.std.specs.Prelude.{◌≡◌, ◌⊎◌, ◌<◌, ◌≤◌, ℕ, List, ◌++◌, length, slice_range, codes}
use Rattle.std.specs.Fmt.{decimal}
use Rattle.risc_pages.specs.Tables.{table_words}
use Rattle.risc_devices.specs.Picture.{IsPicture}
use Rattle.oberon_format.specs.Recording.{RecordingParts, checkpoint_at}
use Rattle.oberon_check.specs.declared.versions.Versions.{Versions}
use Rattle.oberon_check.specs.declared.versions.Versions.TheVariants.{WithoutDisk}
use Rattle.oberon_check.specs.Versions.{TextIn}
use Rattle.oberon_check.specs.HeadlineWithDisk.{IsLineOfFaultIn}

-- the words of the display, 237,504 to 262,079, in the memory that checkpoint k claims
abbrev pub display_of : RecordingParts → ℕ → List ℕ
display_of r k = slice_range (table_words r.pool (checkpoint_at r k).table) 237504 262080

-- the line if there is no such checkpoint
abbrev pub missing_line : ℕ → List ℕ
missing_line at = codes "no checkpoint " ++ (decimal at ++ codes "\n")

-- the picture of the display that the checkpoint claims
pub record IsClaimedScreen (r : RecordingParts) (at : ℕ) (output : List ℕ) (status : ℕ) : Type 0 where
  pub there : at < length r.checkpoints
  pub picture : IsPicture (display_of r at) output
  pub status_is : status ≡ 0

-- there is no such checkpoint
pub record IsMissing (r : RecordingParts) (at : ℕ) (output : List ℕ) (status : ℕ) : Type 0 where
  pub beyond : length r.checkpoints ≤ at
  pub line_is : output ≡ missing_line at
  pub status_is : status ≡ 2

-- the answer to a recording
abbrev pub IsScreenOf : RecordingParts → ℕ → List ℕ → ℕ → Type 0
IsScreenOf r at output status = IsClaimedScreen r at output status ⊎ IsMissing r at output status

-- the input is a recording in one of these versions, and this is the answer to its recording
pub record IsReadScreenIn (versions : Versions) (at : ℕ) (input output : List ℕ) (status : ℕ) : Type 0 where
  pub recording : RecordingParts
  pub read : TextIn versions input recording
  pub screen : IsScreenOf recording at output status

-- the answer to an input: the answer to its recording, or the line of its first fault. The checkpoint has no effect on that line
abbrev pub IsScreenIn : Versions → ℕ → List ℕ → List ℕ → ℕ → Type 0
IsScreenIn versions at input output status = IsReadScreenIn versions at input output status ⊎ IsLineOfFaultIn versions input output status

-- the same without a disk
abbrev pub IsScreen : ℕ → List ℕ → List ℕ → ℕ → Type 0
IsScreen = IsScreenIn WithoutDisk
