-- One link of the way back from a value: the last write of its part, the value that this gave it, and from which parts the instruction
-- computed it (this project's own choice).
use Rattle.std.specs.Prelude.{ℕ, ◌≡◌, ◌≢◌, ◌⊎◌, ◌+◌, ◌-◌, ◌^◌, ◌<◌, ◌≤◌, All, List, [], Option, None, Some, MatchOption, length, map, slice_index, take, ⊤}
use Rattle.risc_core.specs.Instruction.{instruction_of}
use Rattle.risc_devices.specs.Input.{value_of as input_value}
use Rattle.risc_model.specs.declared.event.Event.{Event}
use Rattle.risc_model.specs.MachineState.{State}
use Rattle.risc_search.specs.Effects.{next_word}
use Rattle.oberon_past.specs.Origins.{IsPart, bits_written, origins_of, value_of}
use Rattle.oberon_past.specs.Past.{PastParts}
use Rattle.oberon_past.specs.Run.{Run, state_at}
use Rattle.oberon_past.specs.Search.{IsOutOfRange, IsRange, IsSearched}
use Rattle.oberon_past.specs.Writes.{IsLastWrite, clauses}
use Rattle.oberon_past.specs.declared.found.Which.TheVariants as which
use Rattle.oberon_past.specs.declared.link.Computation.{Computation}
use Rattle.oberon_past.specs.declared.link.Link.{Link}
use Rattle.oberon_past.specs.declared.link.Why.{Why}
use Rattle.oberon_past.specs.declared.link.Why.TheVariants as answer
use Rattle.oberon_past.specs.declared.part.Part.{Part}
use Rattle.oberon_past.specs.declared.part.Part.TheVariants.{Register, Word, Leds, Inputs, Stop}
use Rattle.oberon_past.specs.declared.part.WriteKind.TheVariants.{Any}
use Rattle.oberon_past.specs.declared.write.Write.{Write}
use Rattle.oberon_past.specs.declared.write.Writer.{Writer}
use Rattle.oberon_past.specs.declared.write.Writer.TheVariants.{Instruction, Input}

-- the parts from which the instruction of a word computes what it writes. Beyond RAM there is no instruction
unfoldable pub parts_read : Option ℕ → List ℕ → List Part
parts_read None r = []
parts_read (Some word) r = origins_of (instruction_of word) r

-- the bits of a part that it writes. Beyond RAM the machine stops, which is written whole
unfoldable pub bits_of : Part → Option ℕ → List ℕ → ℕ
bits_of part None r = 2 ^ 32 - 1
bits_of part (Some word) r = bits_written part (instruction_of word) r

-- how the instruction of a state writes a part
pub record IsComputation (part : Part) (s : State) (c : Computation) : Type 0 where
  pub counter : c.pc ≡ s.cpu.pc
  pub word_is : c.word ≡ next_word s.cpu s.words
  pub bits_are : c.bits ≡ bits_of part c.word s.cpu.r
  pub origins_are : take c.origins.count c.origins.list ≡ parts_read c.word s.cpu.r
  pub few : c.origins.count ≤ 3
  pub parts : All IsPart c.origins.list

-- a write of a run: its count is of the run, and the next one is a count, too; an input is one of the run's
pub record IsWriteIn (run : Run) (write : Write) : Type 0 where
  pub from : run.start ≤ write.count
  pub below : write.count < 2 ^ 64 - 1
  pub inside : (index : ℕ) → write.by ≡ Input index → index < length run.inputs

-- the value of the input at an index
abbrev pub input_value_at : List Event → ℕ → ℕ
input_value_at es index = slice_index (map (λ (e : Event). input_value e.input) es) index

-- the value that a write gives a part: that after the instruction, or that of the input
abbrev pub value_by : Run → Part → ℕ → Writer → ℕ
value_by run part n Instruction = value_of part (state_at run (n + 1))
value_by run part n (Input index) = input_value_at run.inputs index

-- the value of a part by its last write; without one it is as it was at the first count
abbrev pub value_given : Run → Part → Option Write → ℕ
value_given run part None = value_of part run.first
value_given run part (Some write) = value_by run part write.count write.by

-- how a part was computed, if an instruction wrote it
abbrev pub IsComputedBy : Run → Part → ℕ → Writer → Option Computation → Type 0
IsComputedBy run part n Instruction computation = MatchOption computation ⊥ (IsComputation part (state_at run n))
IsComputedBy run part n (Input index) computation = computation ≡ None

abbrev pub IsComputed : Run → Part → Option Write → Option Computation → Type 0
IsComputed run part None computation = computation ≡ None
IsComputed run part (Some write) computation = IsComputedBy run part write.count write.by computation

-- the link of a part by its last write
pub record IsLinkBy (run : Run) (part : Part) (write : Option Write) (link : Link) : Type 0 where
  pub write_is : link.write ≡ write
  pub value_is : link.value ≡ value_given run part write
  pub computed : IsComputed run part write link.computation

-- the link of a part before a count
abbrev pub IsLink : Run → Part → ℕ → Link → Type 0
IsLink run part before link = IsLastWrite run part Any before link.write × IsLinkBy run part link.write link

-- before which count one of the parts that the instruction of a count reads is asked about: before this count; or if inputs set it,
-- before the next one, since the machine takes the inputs of a count before its instruction
abbrev pub asked_before : Part → ℕ → ℕ
asked_before (Inputs kind) n = n + 1
asked_before _ n = n

-- the answer to a question about where the value of a part before a count comes from
abbrev pub IsWhy : Run → ℕ → Part → ℕ → Why → Type 0
IsWhy run end part before (answer.Done link) = IsRange run end run.start before × IsLink run part before link
IsWhy run end part before (answer.More at) =
    IsRange run end run.start before × IsSearched run (clauses part Any) which.Last run.start before at
IsWhy run end part before (answer.OutOfRange fault) = IsOutOfRange run end run.start before fault

-- what such a question leaves: to be gone on with, at least one keyframe more, or a part of the range that is searched; refused, all as
-- it was
abbrev pub AdvancesWhy : PastParts → PastParts → ℕ → Why → Type 0
AdvancesWhy old new before (answer.Done link) = ⊤
AdvancesWhy old new before (answer.More at) = (old.keyframes < new.keyframes) ⊎ (at ≢ before)
AdvancesWhy old new before (answer.OutOfRange fault) = new ≡ old
