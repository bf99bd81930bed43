-- Reading the lines of shards.
use Rattle.std.specs.Prelude.{ℕ, ◌≡◌, ◌<◌, ◌^◌, ◌==◌, if◌then◌else◌, List, ◌∷◌, ◌++◌, All, length}
use Rattle.std.specs.Str.Iter.{LacksByte}
use Rattle.hex.specs.Hex.{IsBytes}
use Rattle.oberon_format.specs.declared.fault.Fault.{Fault}
use Rattle.oberon_format.specs.declared.fault.Fault.TheVariants.{Short, Magic, Version, Limit, Event, Checkpoint, Page, Trailing}
use Rattle.oberon_format.specs.declared.fault.Fault.TheVariants.{Memory}
use Rattle.oberon_check.specs.declared.part.Part.{Part}
use Rattle.oberon_check.specs.declared.part.Part.TheVariants.{R, H, Pc, Flags, Stop, Timer, Rate, Phase, Switches, Leds, Mouse}
use Rattle.oberon_check.specs.declared.part.Part.TheVariants.{Serial, Keys, Disk, Sent, Page as PageOf}
use Rattle.oberon_check.specs.declared.versions.Versions.{Versions}
use Rattle.oberon_shards.specs.declared.shard.Finding.{Finding}
use Rattle.oberon_shards.specs.declared.shard.Shard.{Shard}
use Rattle.oberon_shards.specs.Shard.{IsShardIn, shard_line}
use Rattle.oberon_shards.specs.Lines.{AreLinesIn, HasLine, HasNoShard, IsPrintable, IsSame, shard_lines}

-- if the text is one without this byte, then the byte and more, these are the two
abbrev pub IsCut : ℕ → List ℕ → List ℕ → List ℕ → Type 0
IsCut byte text first second =
    (before after : List ℕ) → LacksByte byte before → text ≡ before ++ byte ∷ after → (first ≡ before) × (second ≡ after)

-- the number of a fault
abbrev pub fault_number : Fault → ℕ
fault_number (Short byte) = 1
fault_number (Magic byte) = 2
fault_number (Version byte) = 3
fault_number (Limit byte) = 4
fault_number (Event byte) = 5
fault_number (Checkpoint byte) = 6
fault_number (Page byte) = 7
fault_number (Trailing byte) = 8
fault_number Memory = 0

-- the part whose name begins with two bytes, by its register or page
abbrev pub part_from : ℕ → ℕ → ℕ → ℕ → Part
part_from first second register page =
    if first == 82 then R register
    else if first == 72 then H
    else if first == 80 then Pc
    else if first == 102 then Flags
    else if first == 116 then Timer
    else if first == 114 then Rate
    else if first == 76 then Leds
    else if first == 109 then Mouse
    else if first == 107 then Keys
    else if first == 100 then Disk
    else if first == 111 then Sent
    else if first == 115 then (if second == 116 then Stop else if second == 119 then Switches else Serial)
    else if second == 104 then Phase
    else PageOf page

-- if the text begins with the line of a recording that such a shard has, this is the line, and this is its count
abbrev pub IsFirstLine : Finding → ℕ → ℕ → List ℕ → ℕ → List ℕ → Type 0
IsFirstLine finding to last text count line =
    (n : ℕ) (said more : List ℕ) → HasLine finding to last n said → n < 2 ^ 64 → text ≡ said ++ more → (count ≡ n) × (line ≡ said)

-- the line of a recording that such a shard has, and its count
pub record IsSaid (finding : Finding) (to last : ℕ) (text : List ℕ) (count : ℕ) (line : List ℕ) : Type 0 where
  pub line_is : HasLine finding to last count line
  pub count_fits : count < 2 ^ 64
  pub first : IsFirstLine finding to last text count line

-- if the text begins with the line of a shard, it is this one
abbrev pub IsFirstOf : List ℕ → Shard → Type 0
IsFirstOf text shard = (s : Shard) (more : List ℕ) → IsPrintable s → text ≡ shard_line s ++ more → IsSame s shard

-- a shard of which the program can print a line, if its numbers are in their ranges
pub record IsRead (text : List ℕ) (s : Shard) : Type 0 where
  pub digest_length : length s.digest ≡ 32
  pub digest_bytes : IsBytes s.digest
  pub count_fits : s.count < 2 ^ 64
  pub line : HasLine s.finding s.to s.last s.count s.line.items
  pub first : IsFirstOf text s

-- the text begins with the line of this shard, and with that of no other, and this is the rest
pub record IsNext (text : List ℕ) (shard : Shard) (rest : List ℕ) : Type 0 where
  pub begins : text ≡ shard_line shard ++ rest
  pub printable : IsPrintable shard
  pub only : (s : Shard) (more : List ℕ) → IsPrintable s → text ≡ shard_line s ++ more → IsSame s shard × (more ≡ rest)

-- the text has the lines of these shards, and then the rest. If its lines are those of shards of a file, these shards are, and so are the
-- lines of the rest
pub record IsReadTo (text : List ℕ) (shards : List Shard) (rest : List ℕ) : Type 0 where
  pub lines_are : text ≡ shard_lines shards ++ rest
  pub printable : All IsPrintable shards
  pub are : (versions : Versions) (file : List ℕ) → AreLinesIn versions file text → All (IsShardIn versions file) shards × AreLinesIn versions file rest

-- and the rest does not begin with the line of a shard
abbrev pub AreRead : List ℕ → List Shard → List ℕ → Type 0
AreRead text shards rest = IsReadTo text shards rest × (0 < length rest → HasNoShard rest)
