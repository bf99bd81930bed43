-- The conditions that a search looks for, each on one step of a run.
use Rattle.std.specs.Prelude.{ℕ, ◌≡◌, ◌≢◌, ◌<◌, ◌^◌, ◌==◌, ◌&&◌, ◌||◌, List, Bool, true, false, is_some, length, map, slice_index, IsSome, MatchOption, Option, Some}
use Rattle.risc_core.specs.declared.flags.Flags.{Flags as FlagsOf}
use Rattle.risc_core.specs.declared.instruction.Instr.{Instr}
use Rattle.risc_core.specs.declared.instruction.Instr.TheVariants.{Reg, Imm, Load as Loads, Store as Stores, BranchReg, BranchOff}
use Rattle.risc_core.specs.declared.operations.TheConstants.{ADD, SUB}
use Rattle.risc_core.specs.Arithmetic.{and_word}
use Rattle.risc_core.specs.Flags.{flags_number}
use Rattle.risc_core.specs.Word.{bit}
use Rattle.risc_devices.specs.Input.{kind_of}
use Rattle.risc_model.specs.declared.event.Event.{Event}
use Rattle.risc_model.specs.InputOrder.{count_at}
use Rattle.risc_model.specs.MachineState.{CpuState}
use Rattle.risc_search.specs.declared.access.Access.{Access}
use Rattle.risc_search.specs.declared.condition.Condition.{Condition}
use Rattle.risc_search.specs.declared.condition.Condition.TheVariants.{Counter, Store, Change, Load, Becomes}
use Rattle.risc_search.specs.declared.condition.Condition.TheVariants.{Sends, SendsByte, Takes, Stops, Writes, WritesFlags, Alters, Is, IsWord}
use Rattle.risc_search.specs.declared.register.Register.{Register}
use Rattle.risc_search.specs.declared.register.Register.TheVariants.{Numbered, Auxiliary, Flags}
use Rattle.risc_search.specs.declared.span.Span.{Span}
use Rattle.risc_search.specs.declared.values.Values.{Values}
use Rattle.risc_search.specs.Access.{next_access, next_instruction}
use Rattle.risc_search.specs.Changes.{Differ}
use Rattle.risc_search.specs.Span.{IsIn, Meets}
use Rattle.risc_search.specs.Step.{Step}
use Rattle.risc_search.specs.Values.{IsOneOf}
use Rattle.risc_core.specs.Written.{written_register, writes_auxiliary}

-- the value of a register. The flags are one number: N is 8, Z 4, C 2, V 1
abbrev pub register_value : Register → CpuState → ℕ
register_value (Numbered number) cpu = slice_index cpu.r number
register_value Auxiliary cpu = cpu.h
register_value Flags cpu = flags_number cpu.flags

-- an instruction accesses a byte in the range: it stores to it, or loads it
pub record Accesses (stores : Bool) (bytes : Span) (accessed : Option Access) : Type 0 where
  pub access : Access
  pub is : accessed ≡ Some access
  pub direction : access.stores ≡ stores
  pub meets : Meets bytes access.first access.count

-- the register is not the value before, and is the value after
pub record BecomesValue (value before after : ℕ) : Type 0 where
  pub was_not : before ≢ value
  pub is : after ≡ value

-- the kind of the input at an index
abbrev pub kind_at : List Event → ℕ → ℕ
kind_at es index = slice_index (map (λ e. kind_of e.input) es) index

-- an input of the kind has the count n
pub record HasInput (kind : ℕ) (es : List Event) (n : ℕ) : Type 0 where
  pub index : ℕ
  pub inside : index < length es
  pub count : count_at es index ≡ n
  pub kind_is : kind_at es index ≡ kind

-- an instruction that does not stop the machine writes a register. Each write of one of R0 to R15 sets N and Z, so it writes the flags
abbrev pub IsWrittenBy : Register → Instr → FlagsOf → Type 0
IsWrittenBy (Numbered number) i flags = written_register i flags ≡ Some number
IsWrittenBy Auxiliary i flags = writes_auxiliary i ≡ true
IsWrittenBy Flags i flags = IsSome (written_register i flags)

-- the next instruction, if there is one, is of those that write a register
abbrev pub IsNextWriting : Register → CpuState → Option Instr → Type 0
IsNextWriting register cpu next = MatchOption next ⊥ (λ i. IsWrittenBy register i cpu.flags)

-- the instruction of a step writes a register, and does not stop the machine
pub record WritesAt (register : Register) (step : Step) : Type 0 where
  pub writes : IsNextWriting register step.before.cpu (next_instruction step.before.cpu step.before.words)
  pub goes_on : step.after.cpu.stop ≡ 0

-- an instruction that does not stop the machine writes C and V: a sum or a difference
unfoldable pub writes_carry : Instr → Bool
writes_carry (Reg op u v a b c) = op == ADD || op == SUB
writes_carry (Imm op u v a b im) = op == ADD || op == SUB
writes_carry (Loads byte a b off) = false
writes_carry (Stores byte a b off) = false
writes_carry (BranchReg cond link c) = false
writes_carry (BranchOff cond link off) = false

-- it writes one of the flags that a mask names, as the number of the flags has them: N or Z, which it writes with each of R0 to R15, or
-- C or V
unfoldable pub writes_flag : ℕ → Instr → FlagsOf → Bool
writes_flag mask i flags =
    ((bit mask 3 || bit mask 2) && is_some (written_register i flags)) || ((bit mask 1 || bit mask 0) && writes_carry i)

-- the next instruction, if there is one, writes one of the flags that a mask names
abbrev pub IsNextWritingFlags : ℕ → CpuState → Option Instr → Type 0
IsNextWritingFlags mask cpu next = MatchOption next ⊥ (λ i. writes_flag mask i cpu.flags ≡ true)

-- the instruction of a step writes one of them, and does not stop the machine
pub record WritesFlagsAt (mask : ℕ) (step : Step) : Type 0 where
  pub writes : IsNextWritingFlags mask step.before.cpu (next_instruction step.before.cpu step.before.words)
  pub goes_on : step.after.cpu.stop ≡ 0

-- the bits that a mask names of a register
abbrev pub masked : Register → ℕ → CpuState → ℕ
masked register mask cpu = and_word (register_value register cpu) mask

-- the bits that a mask names of the word of RAM with a number have one of these values
abbrev pub IsWordOf : List ℕ → ℕ → ℕ → Values → Type 0
IsWordOf words number mask values = (number < 2 ^ 18) × IsOneOf values (and_word (slice_index words number) mask)

-- a condition holds at a step
abbrev pub Holds : Condition → List Event → Step → Type 0
Holds (Counter words) es step = (step.before.cpu.stop ≡ 0) × IsIn words step.before.cpu.pc
Holds (Store bytes) es step = Accesses true bytes (next_access step.before.cpu step.before.words)
Holds (Change bytes mask) es step = Differ bytes mask step.before.words step.after.words
Holds (Load bytes) es step = Accesses false bytes (next_access step.before.cpu step.before.words)
Holds (Becomes register value) es step =
    BecomesValue value (register_value register step.before.cpu) (register_value register step.after.cpu)
Holds Sends es step = IsSome step.sent
Holds (SendsByte byte) es step = step.sent ≡ Some byte
Holds (Takes kind) es step = (step.before.cpu.stop ≡ 0) × HasInput kind es step.count
Holds Stops es step = (step.before.cpu.stop ≡ 0) × (step.after.cpu.stop ≢ 0)
Holds (Writes register) es step = WritesAt register step
Holds (WritesFlags mask) es step = WritesFlagsAt mask step
Holds (Alters register mask) es step = masked register mask step.after.cpu ≢ masked register mask step.before.cpu
Holds (Is register values) es step =
    (step.before.cpu.stop ≡ 0) × IsOneOf values (register_value register step.before.cpu)
Holds (IsWord number mask values) es step =
    (step.before.cpu.stop ≡ 0) × IsWordOf step.before.words number mask values
