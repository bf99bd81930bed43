-- What shards combine to.
use Rattle.std.specs.Prelude.{ℕ, ◌≡◌, ◌+◌, ◌-◌, ◌<◌, ◌≤◌, List, All, length, slice_index_or}
use Rattle.oberon_check.specs.declared.versions.Versions.{Versions}
use Rattle.oberon_check.specs.HeadlineWithDisk.{IsLineIn}
use Rattle.oberon_shards.specs.declared.shard.Shard.{Shard}
use Rattle.oberon_shards.specs.declared.shard.Finding.{Finding}
use Rattle.oberon_shards.specs.declared.shard.Finding.TheVariants.{Holds, Fails, Refused}
use Rattle.oberon_shards.specs.declared.fault.CombineFault.{CombineFault}
use Rattle.oberon_shards.specs.declared.fault.CombineFault.TheVariants.{Long, Syntax, Empty, OtherFile, Contradiction, Missing}
use Rattle.oberon_shards.specs.Shard.{IsShardIn, finding_status}

-- this is a member of the list
abbrev pub IsOneOf : List Shard → Shard → Type 0
IsOneOf shards s = (k : ℕ) × (k < length shards) × (s ≡ slice_index_or shards k s)

-- this shard decides: if all are true of some bytes, its line and its status are the line and the status of a check of these bytes, with a
-- disk if all shards are of a check with one
abbrev pub Decides : List Shard → Shard → Type 0
Decides shards s =
    (versions : Versions) (bytes : List ℕ) → All (IsShardIn versions bytes) shards
    → IsLineIn versions bytes s.line.items (finding_status s.finding)

-- a shard that holds has this segment
pub record IsCovered (shards : List Shard) (segment : ℕ) : Type 0 where
  pub shard : Shard
  pub is_one : IsOneOf shards shard
  pub holds : shard.finding ≡ Holds
  pub from : shard.from ≤ segment
  pub to : segment < shard.to

-- all shards are of one file, by its digest
abbrev pub AreOfOneFile : List Shard → Type 0
AreOfOneFile shards = (digest : List ℕ) × All (λ s. s.digest ≡ digest) shards

-- this shard is of another file than the first
pub record IsOther (shards : List Shard) (k : ℕ) : Type 0 where
  pub first : Shard
  pub is_first : first ≡ slice_index_or shards 0 first
  pub inside : k < length shards
  pub other : (s : Shard) → s ≡ slice_index_or shards k s → ¬ (s.digest ≡ first.digest)

-- no file has both shards
abbrev pub AreApart : Shard → Shard → Type 0
AreApart a b = (versions : Versions) (file : List ℕ) → IsShardIn versions file a → ¬ (IsShardIn versions file b)

-- the counts of two checkpoints, the second of which is not before the first: each is at least one more than that of the one before
abbrev pub Rise : ℕ → ℕ → ℕ → ℕ → Type 0
Rise at count other_at other_count = (at ≡ other_at → count ≡ other_count) × (count + (other_at - at) ≤ other_count)

-- two shards with these findings do not contradict each other, in this order: the totals, the faults, or the parts and counts of a failed
-- segment are the same; the segment that fails by the first does not hold by the second; and counts rise
abbrev pub AgreeAs : Finding → Finding → Shard → Shard → Type 0
AgreeAs Holds Holds a b = a.line.items ≡ b.line.items
AgreeAs Holds Fails a b = Unit {0}
AgreeAs Holds Refused a b = ⊥
AgreeAs Fails Holds a b = (b.from < a.to → a.to ≤ b.to → ⊥) × Rise a.to a.count b.last b.count
AgreeAs Fails Fails a b =
    (a.to ≡ b.to → a.line.items ≡ b.line.items) × (a.to < b.to → (b.from < a.to → ⊥) × Rise a.to a.count b.to b.count)
AgreeAs Fails Refused a b = ⊥
AgreeAs Refused Holds a b = ⊥
AgreeAs Refused Fails a b = ⊥
AgreeAs Refused Refused a b = a.line.items ≡ b.line.items

-- they do not contradict each other in this order, and have as many segments
abbrev pub Agree : Shard → Shard → Type 0
Agree a b = (a.last ≡ b.last) × AgreeAs a.finding b.finding a b

-- no two shards contradict each other, in either order
abbrev pub AllAgree : List Shard → Type 0
AllAgree shards = All (λ a. All (Agree a) shards) shards

-- the shards at these indices are not both true of any file
pub record IsContradiction (shards : List Shard) (i j : ℕ) : Type 0 where
  pub one_inside : i < length shards
  pub other_inside : j < length shards
  pub apart : (a b : Shard) → a ≡ slice_index_or shards i a → b ≡ slice_index_or shards j b → AreApart a b

-- a shard has this segment
abbrev pub HasSegment : List Shard → ℕ → Type 0
HasSegment shards segment = (s : Shard) × IsOneOf shards s × (s.from ≤ segment) × (segment < s.to)

-- no shard has any of the segments from the first number to the last, which are segments of the recording; shards that hold have each
-- segment before them; and some shard has the segment after them, unless they are the last ones
pub record IsMissing (shards : List Shard) (first last : ℕ) : Type 0 where
  pub shard : Shard
  pub is_first : shard ≡ slice_index_or shards 0 shard
  pub order : first ≤ last
  pub inside : last < shard.last
  pub missing : All (λ s. (k : ℕ) → first ≤ k → k ≤ last → ¬ ((s.from ≤ k) × (k < s.to))) shards
  pub before : (k : ℕ) → k < first → IsCovered shards k
  pub whole : last + 1 < shard.last → HasSegment shards (last + 1)

-- why shards combine to no line, with the lines that are to blame, counted from 1: there is none; this one is of another file than the
-- first; these two contradict each other; or no shard has these segments, and no two contradict each other. The other two faults are those
-- of a text
abbrev pub IsCombineFault : List Shard → CombineFault → Type 0
IsCombineFault shards Long = ⊥
IsCombineFault shards (Syntax line) = ⊥
IsCombineFault shards Empty = length shards ≡ 0
IsCombineFault shards (OtherFile line) = (k : ℕ) × (line ≡ k + 1) × IsOther shards k
IsCombineFault shards (Contradiction one other) =
    AreOfOneFile shards × ((i j : ℕ) × (one ≡ i + 1) × (other ≡ j + 1) × IsContradiction shards i j)
IsCombineFault shards (Missing first last) = AreOfOneFile shards × AllAgree shards × IsMissing shards first last
