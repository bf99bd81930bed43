-- Laws of the definitions of shards.
use Rattle.std.specs.Prelude.{ℕ, ◌≡◌, ◌<◌, ◌≤◌, List, All, length, slice_index_or}
use Rattle.sha2.specs.Sha256.{sha256}
use Rattle.oberon_format.specs.Recording.{RecordingParts}
use Rattle.oberon_check.specs.declared.versions.Versions.{Versions}
use Rattle.oberon_check.specs.Versions.{TextIn}
use Rattle.oberon_shards.specs.declared.border.TheConstants.{MAX_SHARDS}
use Rattle.oberon_shards.specs.declared.fault.TheConstants.{LONGEST_SHARDS}
use Rattle.oberon_shards.specs.declared.shard.Shard.{Shard}
use Rattle.oberon_shards.specs.Border.{IsBetween}
use Rattle.oberon_shards.specs.Combining.{IsOneOf, IsMissing}
use Rattle.oberon_shards.specs.Lines.{IsPrintable, IsSame}
use Rattle.oberon_shards.specs.Shard.{IsShardIn, shard_line}

-- the limits by their values, so that a mistyped one cannot change a contract unnoticed
abbrev pub HasShardLimits : Type 0
HasShardLimits = (MAX_SHARDS ≡ 4096) × (LONGEST_SHARDS ≡ 4194304)

-- one of the shards is shard `index` of `of` of the recording
abbrev pub HasIndexed : RecordingParts → List Shard → ℕ → ℕ → Type 0
HasIndexed r shards of index = (s : Shard) × IsOneOf shards s × IsBetween r index of s

-- if all shards are true of the bytes of a recording, and shards 1 to `of` are among them, whatever else is, then no segment is missing
abbrev pub IsComplete : Type 0
IsComplete =
    (versions : Versions) (bytes : List ℕ) (r : RecordingParts) (shards : List Shard) (of : ℕ)
    → TextIn versions bytes r → All (IsShardIn versions bytes) shards → 1 ≤ of
    → ((index : ℕ) → 1 ≤ index → index ≤ of → HasIndexed r shards of index) → (first last : ℕ) → ¬ (IsMissing shards first last)

-- a line of a shard has one reading
abbrev pub HasOneReading : Type 0
HasOneReading = (s t : Shard) → IsPrintable s → IsPrintable t → shard_line s ≡ shard_line t → IsSame s t

-- shards with one digest, each true of some file, are all true of one, if any two of these files with one digest are the same
abbrev pub IsOfOneFile : Type 0
IsOfOneFile =
    (versions : Versions) (shards : List Shard) (file_of : ℕ → List ℕ)
    → ((k : ℕ) (s : Shard) → k < length shards → IsShardIn versions (file_of k) (slice_index_or shards k s))
    → (s : Shard) → All (λ t. t.digest ≡ s.digest) shards
    → ((i j : ℕ) → i < length shards → j < length shards → sha256 (file_of i) ≡ sha256 (file_of j) → file_of i ≡ file_of j)
    → All (IsShardIn versions (file_of 0)) shards
