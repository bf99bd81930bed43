-- The last write of a part of a machine. A part is written at a count where one of the conditions of `risc_search` below holds (this
-- project's own choice).
use Rattle.std.specs.Prelude.{ℕ, false, ◌≡◌, ◌≢◌, ◌⊎◌, ◌+◌, ◌-◌, ◌*◌, ◌/◌, ◌%◌, ◌^◌, ◌<◌, ◌==◌, ◌&&◌, not, nat_lt, List, [], ◌∷◌, Option, None, Some, length, if◌then◌else◌, ⊤}
use Rattle.risc_devices.specs.declared.words.TheConstants.{LEDS}
use Rattle.risc_model.specs.declared.event.Event.{Event}
use Rattle.risc_model.specs.InputOrder.{count_at}
use Rattle.risc_search.specs.declared.condition.Clause.{Clause}
use Rattle.risc_search.specs.declared.condition.Condition.{Condition}
use Rattle.risc_search.specs.declared.condition.Condition.TheVariants.{Store, Change, Takes, Stops, Writes, WritesFlags, Alters}
use Rattle.risc_search.specs.declared.register.Register.{Register as RegisterOf}
use Rattle.risc_search.specs.declared.register.Register.TheVariants.{Numbered, Auxiliary, Flags}
use Rattle.risc_search.specs.declared.span.Span.{Span}
use Rattle.risc_search.specs.Condition.{HasInput, kind_at}
use Rattle.oberon_past.specs.Past.{PastParts}
use Rattle.oberon_past.specs.Run.{Run}
use Rattle.oberon_past.specs.Search.{IsOutOfRange, IsRange, IsSearched, IsWanted}
use Rattle.oberon_past.specs.declared.found.Which.TheVariants as which
use Rattle.oberon_past.specs.declared.part.Part.{Part}
use Rattle.oberon_past.specs.declared.part.Part.TheVariants.{Register, Word, Leds, Inputs, Stop}
use Rattle.oberon_past.specs.declared.part.WriteKind.{WriteKind}
use Rattle.oberon_past.specs.declared.part.WriteKind.TheVariants.{Any, Changing}
use Rattle.oberon_past.specs.declared.write.LastWrite.{LastWrite}
use Rattle.oberon_past.specs.declared.write.LastWrite.TheVariants as answer
use Rattle.oberon_past.specs.declared.write.Write.{Write}
use Rattle.oberon_past.specs.declared.write.Writer.{Writer}
use Rattle.oberon_past.specs.declared.write.Writer.TheVariants.{Instruction, Input}

-- ---- conditions

-- a condition that is joined to none
abbrev pub clause_of : Condition → Clause
clause_of condition = record { condition = condition; joined = false }

abbrev pub alone : Condition → List Clause
alone condition = clause_of condition ∷ []

-- where a register is written, or changed in a bit that the mask names. R0 to R15 and H are written whole
abbrev pub register_condition : RegisterOf → ℕ → WriteKind → Condition
register_condition (Numbered number) mask Any = Writes (Numbered number)
register_condition Auxiliary mask Any = Writes Auxiliary
register_condition Flags mask Any = WritesFlags mask
register_condition register mask Changing = Alters register mask

-- the bytes of a word of RAM, by its number; none if there is no such word
abbrev pub word_span : ℕ → Span
word_span number =
    if nat_lt number (2 ^ 18)
    then record { from = 4 * number; end = 4 * number + 4 }
    else record { from = 0; end = 0 }

-- one byte of it, if the mask names a bit of this byte
abbrev pub byte_span : ℕ → ℕ → ℕ → Span
byte_span number mask byte =
    if nat_lt number (2 ^ 18) && not (mask / 2 ^ (8 * byte) % 2 ^ 8 == 0)
    then record { from = 4 * number + byte; end = 4 * number + byte + 1 }
    else record { from = 0; end = 0 }

-- where a store writes a byte of a word that has a bit that the mask names, or changes such a bit
abbrev pub word_clauses : ℕ → ℕ → WriteKind → List Clause
word_clauses number mask Any =
    clause_of (Store (byte_span number mask 0)) ∷ clause_of (Store (byte_span number mask 1))
    ∷ clause_of (Store (byte_span number mask 2)) ∷ clause_of (Store (byte_span number mask 3)) ∷ []
word_clauses number mask Changing = alone (Change (word_span number) mask)

-- the bytes of the device word of the LEDs
abbrev pub led_span : Span
led_span = record { from = 2 ^ 24 - 64 + 4 * LEDS; end = 2 ^ 24 - 64 + 4 * LEDS + 4 }

-- the conditions of which one holds where a part is written so
abbrev pub clauses : Part → WriteKind → List Clause
clauses (Register register mask) kind = alone (register_condition register mask kind)
clauses (Word number mask) kind = word_clauses number mask kind
clauses Leds kind = alone (Store led_span)
clauses (Inputs number) kind = alone (Takes number)
clauses Stop kind = alone Stops

-- ---- who writes

-- the last input of a kind that has a count
pub record IsLastInput (kind : ℕ) (es : List Event) (n index : ℕ) : Type 0 where
  pub inside : index < length es
  pub count_is : count_at es index ≡ n
  pub kind_is : kind_at es index ≡ kind
  pub last : (k : ℕ) → index < k → k < length es → count_at es k ≡ n → kind_at es k ≢ kind

-- what writes a part at a count: the last input of its kind that the machine takes there, or the instruction
abbrev pub IsWriter : Part → List Event → ℕ → Writer → Type 0
IsWriter (Register register mask) es n writer = writer ≡ Instruction
IsWriter (Word number mask) es n writer = writer ≡ Instruction
IsWriter Leds es n writer = writer ≡ Instruction
IsWriter (Inputs number) es n writer = (index : ℕ) × (writer ≡ Input index) × IsLastInput number es n index
IsWriter Stop es n writer = writer ≡ Instruction

-- there is an input at a count that writes a part, if inputs write it
abbrev pub HasWriter : Part → List Event → ℕ → Type 0
HasWriter (Register register mask) es n = ⊤
HasWriter (Word number mask) es n = ⊤
HasWriter Leds es n = ⊤
HasWriter (Inputs number) es n = HasInput number es n
HasWriter Stop es n = ⊤

-- ---- answers

-- the last write of a part before a count; or that there is none from the first count on, so that the part is as it was there
abbrev pub IsLastWrite : Run → Part → WriteKind → ℕ → Option Write → Type 0
IsLastWrite run part kind before None = IsWanted run (clauses part kind) which.Last run.start before None
IsLastWrite run part kind before (Some write) =
    (condition : ℕ) × IsWanted run (clauses part kind) which.Last run.start before (Some (record { count = write.count; condition = condition }))
    × IsWriter part run.inputs write.count write.by

-- the answer to a question about the last write of a part before a count
abbrev pub IsWritten : Run → ℕ → Part → WriteKind → ℕ → LastWrite → Type 0
IsWritten run end part kind before (answer.Done found) = IsRange run end run.start before × IsLastWrite run part kind before found
IsWritten run end part kind before (answer.More at) =
    IsRange run end run.start before × IsSearched run (clauses part kind) which.Last run.start before at
IsWritten run end part kind before (answer.OutOfRange fault) = IsOutOfRange run end run.start before fault

-- what such a question leaves: to be gone on with, at least one keyframe more, or a part of the range that is searched; refused, all as
-- it was
abbrev pub AdvancesWrite : PastParts → PastParts → ℕ → LastWrite → Type 0
AdvancesWrite old new before (answer.Done found) = ⊤
AdvancesWrite old new before (answer.More at) = (old.keyframes < new.keyframes) ⊎ (at ≢ before)
AdvancesWrite old new before (answer.OutOfRange fault) = new ≡ old
