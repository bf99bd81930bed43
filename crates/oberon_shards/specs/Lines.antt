-- The lines of shards, one after another, as texts carry them from machine to machine.
use Rattle.std.specs.Prelude.{ℕ, ◌≡◌, ◌<◌, ◌≤◌, ◌+◌, ◌-◌, ◌^◌, List, ◌++◌, All, flat_map, length}
use Rattle.hex.specs.Hex.{IsBytes}
use Rattle.risc_model.specs.declared.inputs.TheConstants.{MAX_COUNT}
use Rattle.oberon_format.specs.declared.fault.Fault.{Fault}
use Rattle.recording_limits.specs.declared.limits.TheConstants.{LAST_CHECKPOINT}
use Rattle.oberon_format.specs.Line.{IsNamedFault, fault_line}
use Rattle.oberon_check.specs.declared.part.Part.{Part}
use Rattle.oberon_check.specs.declared.part.Part.TheVariants.{R, Page}
use Rattle.oberon_check.specs.declared.verdict.Verdict.TheVariants.{Accepted, FalseAt}
use Rattle.oberon_check.specs.declared.versions.Versions.{Versions}
use Rattle.oberon_check.specs.Line.{line_of}
use Rattle.oberon_shards.specs.declared.shard.Shard.{Shard}
use Rattle.oberon_shards.specs.declared.shard.Finding.{Finding}
use Rattle.oberon_shards.specs.declared.shard.Finding.TheVariants.{Holds, Fails, Refused}
use Rattle.oberon_shards.specs.Shard.{IsShardIn, byte_of, shard_line}

-- the lines of these shards
abbrev pub shard_lines : List Shard → List ℕ
shard_lines shards = flat_map shard_line shards

-- the text has lines of shards that are all true of this file in these versions, whichever they are and in whatever order
pub record AreLinesIn (versions : Versions) (file text : List ℕ) : Type 0 where
  pub shards : List Shard
  pub are : All (IsShardIn versions file) shards
  pub lines_are : text ≡ shard_lines shards

-- ---- the lines that the program prints: in their form and in their ranges, whether or not they are true of a file

-- a part of a state: there are 16 registers and 1,024 pages
abbrev pub IsPart : Part → Type 0
IsPart (R i) = i < 16
IsPart (Page p) = p < 1024
IsPart _ = Unit {0}

-- the line of a recording that a shard with this finding, end and number of segments has, with this count
abbrev pub HasLine : Finding → ℕ → ℕ → ℕ → List ℕ → Type 0
HasLine Holds to last count line = line ≡ line_of (Accepted last count)
HasLine Fails to last count line = (part : Part) × IsPart part × (line ≡ line_of (FalseAt to count part))
HasLine Refused to last count line = (fault : Fault) × IsNamedFault fault × (byte_of fault ≡ count) × (line ≡ fault_line fault)

-- the numbers of a shard are those of some recording, whose counts begin at 0 and rise; or those of a file that is none
abbrev pub IsInRanges : Finding → Shard → Type 0
IsInRanges Holds s =
    (s.from ≤ s.to) × (s.to ≤ s.last) × (s.last ≤ s.count) × (s.count ≤ MAX_COUNT) × (s.last ≡ 0 → s.count ≡ 0)
IsInRanges Fails s = (s.from < s.to) × (s.to ≤ s.last) × (s.to ≤ s.count) × (s.count + (s.last - s.to) ≤ MAX_COUNT)
IsInRanges Refused s = (s.from ≡ 0) × (s.to ≡ 0) × (s.last ≡ 0)

-- a shard of which the program can print a line
pub record IsPrintable (s : Shard) : Type 0 where
  pub digest_length : length s.digest ≡ 32
  pub digest_bytes : IsBytes s.digest
  pub few : s.last ≤ LAST_CHECKPOINT
  pub count_fits : s.count < 2 ^ 64
  pub in_ranges : IsInRanges s.finding s
  pub line : HasLine s.finding s.to s.last s.count s.line.items

-- the text does not begin with a line that the program can print
abbrev pub HasNoShard : List ℕ → Type 0
HasNoShard text = (s : Shard) (more : List ℕ) → IsPrintable s → ¬ (text ≡ shard_line s ++ more)

-- shards with the same parts
pub record IsSame (s t : Shard) : Type 0 where
  pub digest_is : t.digest ≡ s.digest
  pub from_is : t.from ≡ s.from
  pub to_is : t.to ≡ s.to
  pub last_is : t.last ≡ s.last
  pub finding_is : t.finding ≡ s.finding
  pub count_is : t.count ≡ s.count
  pub line_is : t.line.items ≡ s.line.items
