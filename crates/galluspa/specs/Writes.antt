-- The last write of a part of a machine, as a caller asks about it and gets it (this project's own choice).
use Rattle.std.specs.Prelude.{ℕ, ◌≡◌, ◌≤◌, ◌<◌, ◌/◌, ◌%◌, ◌^◌, ◌==◌, ◌&&◌, ◌||◌, not, nat_lt, nat_le, if◌then◌else◌, Option, None, Some, IsSome, option_map}
use Rattle.oberon_past.specs.declared.part.Part.{Part}
use Rattle.oberon_past.specs.declared.part.Part.TheVariants.{Register, Word, Leds, Inputs, Stop}
use Rattle.oberon_past.specs.declared.part.WriteKind.{WriteKind}
use Rattle.oberon_past.specs.declared.part.WriteKind.TheVariants.{Any, Changing}
use Rattle.oberon_past.specs.declared.write.LastWrite.{LastWrite}
use Rattle.oberon_past.specs.declared.write.Write.{Write}
use Rattle.oberon_past.specs.declared.write.Writer.{Writer}
use Rattle.oberon_past.specs.declared.write.Writer.TheVariants.{Instruction, Input}
use Rattle.oberon_past.specs.Past.{PastParts}
use Rattle.oberon_past.specs.Writes.{IsWritten}
use Rattle.galluspa.specs.declared.part.RawPart.{RawPart}
use Rattle.galluspa.specs.declared.part.RawWrite.{RawWrite}
use Rattle.galluspa.specs.Conditions.{register_of}

-- ---- what is asked

-- bits of a register. A mask that names no bit is out of its range, and so is one of the flags that is not below 16
abbrev pub register_part : RawPart → Option Part
register_part raw =
    if raw.mask == 0 || (raw.first == 17 && not (nat_lt raw.mask 16)) then None
    else option_map (λ register. Register register raw.mask) (register_of raw.first)

-- bits of a word of RAM, which has an address that 4 divides. A mask that names no bit is out of its range
abbrev pub word_part : RawPart → Option Part
word_part raw =
    if nat_lt raw.first (2 ^ 20) && raw.first % 4 == 0 && not (raw.mask == 0) then Some (Word (raw.first / 4) raw.mask) else None

-- what inputs of a kind set
abbrev pub inputs_part : RawPart → Option Part
inputs_part raw = if nat_le 1 raw.first && nat_le raw.first 6 then Some (Inputs raw.first) else None

-- the part of a caller's numbers, if they are in their ranges
unfoldable pub part_of : RawPart → Option Part
part_of raw =
    if raw.kind == 1 then register_part raw
    else if raw.kind == 2 then word_part raw
    else if raw.kind == 3 then Some Leds
    else if raw.kind == 4 then inputs_part raw
    else if raw.kind == 5 then Some Stop
    else None

-- which writes a caller's number looks for: all of them if it is 0, and else those that change the part
abbrev pub write_kind : ℕ → WriteKind
write_kind changing = if changing == 0 then Any else Changing

-- what is asked about any past is in its range
pub record IsWriteQuestion (raw : RawPart) (changing budget : ℕ) : Type 0 where
  pub part : IsSome (part_of raw)
  pub kind : changing ≤ 1
  pub some : 0 < budget

-- ---- what is answered

-- what writes a part, by two numbers: the instruction of the count if the first is 0, and else the input of this index
abbrev pub writer_of : ℕ → ℕ → Writer
writer_of by input = if by == 0 then Instruction else Input input

-- a write, as it is written to a caller
abbrev pub write_of : RawWrite → Write
write_of raw = record { count = raw.count; by = writer_of raw.by raw.input }

-- the numbers of a write are in their ranges: an instruction has no input
pub record IsWrite (raw : RawWrite) : Type 0 where
  pub by : raw.by ≤ 1
  pub none : raw.by ≡ 0 → raw.input ≡ 0

-- the answer to a caller's question about the last write of a part before a count
pub record HasWritten (raw : RawPart) (changing before : ℕ) (written : LastWrite) (p : PastParts) : Type 0 where
  pub part : Part
  pub is_part : part_of raw ≡ Some part
  pub is_written : IsWritten p.run p.end part (write_kind changing) before written
