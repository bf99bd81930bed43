-- Which segments a shard has: each shard begins where the one before it ends, and they have about as many instructions each.
use Rattle.std.specs.Prelude.{ℕ, ◌≡◌, ◌-◌, ◌*◌, ◌<◌, ◌≤◌, List}
use Rattle.oberon_format.specs.Recording.{RecordingParts, count_at, last_of}
use Rattle.oberon_check.specs.declared.versions.Versions.{Versions}
use Rattle.oberon_check.specs.declared.versions.Versions.TheVariants.{WithoutDisk}
use Rattle.oberon_check.specs.Versions.{TextIn}
use Rattle.oberon_shards.specs.declared.shard.Shard.{Shard}
use Rattle.oberon_shards.specs.declared.shard.Finding.TheVariants.{Holds, Refused}

-- the border after the first `index` of `of` shards: the first segment that begins at or after that share of all instructions
pub record IsBorder (r : RecordingParts) (index of border : ℕ) : Type 0 where
  pub within : border ≤ last_of r
  pub after : index * count_at r (last_of r) ≤ of * count_at r border
  pub before : (s : ℕ) → s < border → of * count_at r s < index * count_at r (last_of r)

-- shard `index` of `of`, counted from 1, has the segments between two borders; if it fails, those up to the failed one
pub record IsBetween (r : RecordingParts) (index of : ℕ) (s : Shard) : Type 0 where
  pub read : ¬ (s.finding ≡ Refused)
  pub end : ℕ
  pub from_is : IsBorder r (index - 1) of s.from
  pub end_is : IsBorder r index of end
  pub to_end : s.to ≤ end
  pub to_is : s.finding ≡ Holds → s.to ≡ end

-- this is shard `index` of `of` of these bytes, if they are a recording in one of these versions
abbrev pub IsIndexedIn : Versions → List ℕ → ℕ → ℕ → Shard → Type 0
IsIndexedIn versions bytes index of s = ¬ (s.finding ≡ Refused) → (r : RecordingParts) → TextIn versions bytes r → IsBetween r index of s

-- the same of a file without a disk
abbrev pub IsIndexed : List ℕ → ℕ → ℕ → Shard → Type 0
IsIndexed = IsIndexedIn WithoutDisk
