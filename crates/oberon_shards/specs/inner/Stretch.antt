-- The replay of a stretch of segments.
use Rattle.std.specs.Prelude.{ℕ, ◌≡◌, ◌<◌, ◌≤◌, ◌^◌, List, Option, Some, MatchOption}
use Rattle.oberon_format.specs.declared.fault.Fault.{Fault}
use Rattle.oberon_format.specs.Recording.{RecordingParts}
use Rattle.oberon_format.specs.Line.{fault_line}
use Rattle.oberon_check.specs.declared.part.Part.{Part}
use Rattle.oberon_check.specs.Segment.{IsSegmentPart}
use Rattle.oberon_shards.specs.declared.shard.Shard.{Shard}
use Rattle.oberon_shards.specs.declared.shard.Finding.{Finding}
use Rattle.oberon_shards.specs.declared.shard.Finding.TheVariants.{Holds, Fails, Refused}
use Rattle.oberon_shards.specs.Shard.{Hold, IsHeld, IsFailed, byte_of}

-- this is the first segment of the stretch that fails, with its part
pub record IsFailedAt (r : RecordingParts) (from end : ℕ) (f : ℕ × Part) : Type 0 where
  pub above : from ≤ f.0
  pub below : f.0 < end
  pub hold : Hold r from f.0
  pub fails : IsSegmentPart r f.0 (Some f.1)

-- this is the first segment of the stretch that fails, or `None` if all hold
abbrev pub IsFirstFailed : RecordingParts → ℕ → ℕ → Option (ℕ × Part) → Type 0
IsFirstFailed r from end found = MatchOption found (Hold r from end) (IsFailedAt r from end)

-- what was found in a recording
abbrev pub IsFoundIn : RecordingParts → Finding → Shard → Type 0
IsFoundIn r Holds s = IsHeld r s
IsFoundIn r Fails s = IsFailed r s
IsFoundIn r Refused s = ⊥

-- the answer of a shard with the segments from `from` to `end - 1`
pub record IsStretch (r : RecordingParts) (digest : List ℕ) (from end : ℕ) (s : Shard) : Type 0 where
  pub digest_is : s.digest ≡ digest
  pub from_is : s.from ≡ from
  pub count_fits : s.count < 2 ^ 64
  pub to_end : s.to ≤ end
  pub to_is : s.finding ≡ Holds → s.to ≡ end
  pub found : IsFoundIn r s.finding s

-- the answer of a shard of bytes with this fault
pub record IsFault (digest : List ℕ) (fault : Fault) (s : Shard) : Type 0 where
  pub digest_is : s.digest ≡ digest
  pub finding_is : s.finding ≡ Refused
  pub from_is : s.from ≡ 0
  pub to_is : s.to ≡ 0
  pub last_is : s.last ≡ 0
  pub count_is : s.count ≡ byte_of fault
  pub count_fits : s.count < 2 ^ 64
  pub line_is : s.line.items ≡ fault_line fault
