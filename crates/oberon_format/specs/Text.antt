-- Which bytes are a recording file.
use Rattle.std.specs.Prelude.{ℕ, true, false, ◌≡◌, ◌<◌, ◌≤◌, ◌^◌, ◌==◌, List, All, length}
use Rattle.oberon_format.specs.declared.layout.TheConstants.{FIRST_VERSION, VERSION_WITH_DISK}
use Rattle.recording_limits.specs.declared.limits.TheConstants.{MAX_EVENTS}
use Rattle.oberon_format.specs.CheckpointParts.{CheckpointParts}
use Rattle.oberon_format.specs.Encoding.{rate_and_phase, encoding}
use Rattle.oberon_format.specs.Ranges.{is_version, is_version_with_disk}
use Rattle.oberon_format.specs.Recording.{HasNoAnswers, IsLawfulWithDisk, RecordingParts}

-- the parts of a checkpoint that version 1 has no word for are 0
pub record HasStillTimer (c : CheckpointParts) : Type 0 where
  pub zeros : All (λ word. word ≡ 0) (rate_and_phase c.devices)

-- a recording without a disk, which needs no version 3
pub record IsPlain (r : RecordingParts) : Type 0 where
  pub few : length r.inputs ≤ MAX_EVENTS
  pub unanswered : HasNoAnswers r

-- the bytes are the encoding of a lawful recording in a known version. Version 1 has no field for some parts, so these are 0, and
-- only version 3 has a disk
pub record IsEncoding (version : ℕ) (bytes : List ℕ) (r : RecordingParts) : Type 0 where
  pub lawful : IsLawfulWithDisk r
  pub known : is_version_with_disk version ≡ true
  pub still : version ≡ FIRST_VERSION → All HasStillTimer r.checkpoints
  pub plain : (version == VERSION_WITH_DISK) ≡ false → IsPlain r
  pub is : bytes ≡ encoding version r

-- a text of a recording without a disk: the bytes are its encoding in one of the versions that have none
pub record Text (bytes : List ℕ) (r : RecordingParts) : Type 0 where
  pub version : ℕ
  pub without : is_version version ≡ true
  pub is : IsEncoding version bytes r

-- a text of a recording: the bytes are its encoding in some version
pub record TextWithDisk (bytes : List ℕ) (r : RecordingParts) : Type 0 where
  pub version : ℕ
  pub is : IsEncoding version bytes r

-- each member is a byte
abbrev pub AreBytes : List ℕ → Type 0
AreBytes bytes = All (λ byte. byte < 2 ^ 8) bytes
