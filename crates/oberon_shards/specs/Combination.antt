-- What `combine` prints for a text: the main theorem of the check in shards.
use Rattle.std.specs.Prelude.{ℕ, ◌≡◌, ◌+◌, ◌⊎◌, ◌<◌, ◌≤◌, List, ◌++◌, All, codes, length}
use Rattle.std.specs.Fmt.{decimal}
use Rattle.oberon_check.specs.declared.versions.Versions.{Versions}
use Rattle.oberon_check.specs.declared.versions.Versions.TheVariants.{WithoutDisk}
use Rattle.oberon_check.specs.HeadlineWithDisk.{IsLineIn}
use Rattle.oberon_shards.specs.declared.shard.Shard.{Shard}
use Rattle.oberon_shards.specs.declared.fault.CombineFault.{CombineFault}
use Rattle.oberon_shards.specs.declared.fault.CombineFault.TheVariants.{Long, Syntax, Empty, OtherFile, Contradiction, Missing}
use Rattle.oberon_shards.specs.declared.fault.TheConstants.{LONGEST_SHARDS}
use Rattle.oberon_shards.specs.Shard.{finding_status, shard_line}
use Rattle.oberon_shards.specs.Border.{IsIndexedIn}
use Rattle.oberon_shards.specs.Shard.{IsShardIn}
use Rattle.oberon_shards.specs.Lines.{AreLinesIn, HasNoShard, IsPrintable, shard_lines}
use Rattle.oberon_shards.specs.Combining.{AllAgree, IsCombineFault, IsOneOf}

-- the line of shard `index` of `of` of these bytes in these versions. The status is 0 whatever was found: the line says it
pub record IsShardReportIn (versions : Versions) (bytes : List ℕ) (index of : ℕ) (line : List ℕ) (status : ℕ) : Type 0 where
  pub shard : Shard
  pub is_shard : IsShardIn versions bytes shard
  pub is_indexed : IsIndexedIn versions bytes index of shard
  pub line_is : line ≡ shard_line shard
  pub status_is : status ≡ 0

-- the same of a file without a disk
abbrev pub IsShardReport : List ℕ → ℕ → ℕ → List ℕ → ℕ → Type 0
IsShardReport = IsShardReportIn WithoutDisk

-- the text has lines that the program can print, of which no two contradict each other, and one of them decides: if the lines are those of
-- shards of a file, in whatever order, by whichever machines and however divided, then the line and the status are those of a check of
-- this file, with a disk if all lines are of a check with one
pub record IsCombined (text line : List ℕ) (status : ℕ) : Type 0 where
  pub short : length text ≤ LONGEST_SHARDS
  pub shards : List Shard
  pub printable : All IsPrintable shards
  pub lines_are : text ≡ shard_lines shards
  pub agree : AllAgree shards
  pub shard : Shard
  pub is_one : IsOneOf shards shard
  pub one_file : All (λ s. s.digest ≡ shard.digest) shards
  pub decides : (versions : Versions) (file : List ℕ) → AreLinesIn versions file text → IsLineIn versions file line status
  pub line_is : line ≡ shard.line.items
  pub status_is : status ≡ finding_status shard.finding

-- the program can print the lines before this one, and cannot print this one: so no file has these lines
pub record IsBroken (text : List ℕ) (line : ℕ) : Type 0 where
  pub shards : List Shard
  pub printable : All IsPrintable shards
  pub rest : List ℕ
  pub lines_are : text ≡ shard_lines shards ++ rest
  pub line_is : line ≡ length shards + 1
  pub broken : HasNoShard rest
  pub none : (versions : Versions) (file : List ℕ) → ¬ (AreLinesIn versions file text)

-- the text has lines that the program can print, whose shards have this fault
pub record AreFaulty (text : List ℕ) (fault : CombineFault) : Type 0 where
  pub shards : List Shard
  pub printable : All IsPrintable shards
  pub lines_are : text ≡ shard_lines shards
  pub is_fault : IsCombineFault shards fault

-- why a text combines to no line: it is too long; a line is not one of a shard; or its shards have a fault
abbrev pub IsTextFault : List ℕ → CombineFault → Type 0
IsTextFault text Long = LONGEST_SHARDS < length text
IsTextFault text (Syntax line) = (length text ≤ LONGEST_SHARDS) × IsBroken text line
IsTextFault text fault = (length text ≤ LONGEST_SHARDS) × AreFaulty text fault

-- the line of a fault
abbrev pub combine_fault_line : CombineFault → List ℕ
combine_fault_line Long = codes "shards refused 1 long\n"
combine_fault_line (Syntax line) = codes "shards refused 2 syntax at line " ++ (decimal line ++ codes "\n")
combine_fault_line Empty = codes "shards refused 3 empty\n"
combine_fault_line (OtherFile line) = codes "shards refused 4 file at line " ++ (decimal line ++ codes "\n")
combine_fault_line (Contradiction one other) =
    codes "shards refused 5 contradiction of lines " ++ (decimal one ++ (codes " and " ++ (decimal other ++ codes "\n")))
combine_fault_line (Missing first last) =
    codes "shards refused 6 missing segments " ++ (decimal first ++ (codes " to " ++ (decimal last ++ codes "\n")))

-- the text combines to no line: that of the fault, with status 2
pub record IsUncombined (text line : List ℕ) (status : ℕ) : Type 0 where
  pub fault : CombineFault
  pub is_fault : IsTextFault text fault
  pub line_is : line ≡ combine_fault_line fault
  pub status_is : status ≡ 2

-- this is the line and this is the status of what a text combines to
abbrev pub IsCombination : List ℕ → List ℕ → ℕ → Type 0
IsCombination text line status = IsCombined text line status ⊎ IsUncombined text line status
