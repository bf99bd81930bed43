-- The walk from shard to shard.
use Rattle.std.specs.Prelude.{ℕ, ◌≡◌, ◌+◌, ◌<◌, ◌≤◌, List, All, Option, MatchOption, length, slice_index_or}
use Rattle.oberon_shards.specs.declared.shard.Shard.{Shard}
use Rattle.oberon_shards.specs.declared.shard.Finding.{Finding}
use Rattle.oberon_shards.specs.declared.shard.Finding.TheVariants.{Holds}
use Rattle.oberon_shards.specs.Combining.{Agree, HasSegment, IsOneOf, IsCovered}

-- a member that has this segment
pub record IsAt (shards : List Shard) (segment : ℕ) (s : Shard) : Type 0 where
  pub is_one : IsOneOf shards s
  pub from : s.from ≤ segment
  pub to : segment < s.to

-- a member with this finding
pub record IsOneWith (shards : List Shard) (finding : Finding) (s : Shard) : Type 0 where
  pub is_one : IsOneOf shards s
  pub finding_is : s.finding ≡ finding

-- a member that does not hold has a segment, and shards that hold have each segment before it
pub record IsEnd (shards : List Shard) (s : Shard) : Type 0 where
  pub at : ℕ
  pub here : IsAt shards at s
  pub fails : ¬ (s.finding ≡ Holds)
  pub before : (k : ℕ) → k < at → IsCovered shards k

-- no member has this segment, and shards that hold have each one before it
pub record IsGap (shards : List Shard) (last at : ℕ) : Type 0 where
  pub inside : at < last
  pub missing : All (λ s. ¬ ((s.from ≤ at) × (at < s.to))) shards
  pub before : (k : ℕ) → k < at → IsCovered shards k

-- shards that hold have each segment, or one that does not hold ends the walk
abbrev pub IsWalk : List Shard → ℕ → Option Shard → Type 0
IsWalk shards last found = MatchOption found ((k : ℕ) → k < last → IsCovered shards k) (IsEnd shards)

-- the member at this index is of another file
pub record IsStranger (shards : List Shard) (digest : List ℕ) (k : ℕ) : Type 0 where
  pub inside : k < length shards
  pub other : (s : Shard) → s ≡ slice_index_or shards k s → ¬ (s.digest ≡ digest)

-- a shard that begins after the gap begins after its end, and one has the segment after it, unless that is the end of all
pub record IsGapEnd (shards : List Shard) (at last end : ℕ) : Type 0 where
  pub above : at ≤ end
  pub below : end < last
  pub none : All (λ s. at < s.from → s.from < s.to → end < s.from) shards
  pub whole : end + 1 < last → HasSegment shards (end + 1)

-- the shard at this index contradicts none, in this order
abbrev pub AgreesWithAll : List Shard → ℕ → Type 0
AgreesWithAll shards one = (a : Shard) → a ≡ slice_index_or shards one a → All (Agree a) shards
