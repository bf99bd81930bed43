-- What a search knows of a step, before its instruction and after it.
use Rattle.std.specs.Prelude.{ℕ, ◌≡◌, ◌≢◌, ◌<◌, ◌+◌, ◌*◌, ◌/◌, ◌^◌, ◌↔◌, ◌&&◌, nat_lt, true, false, List, length, slice_index}
use Rattle.std.specs.Prelude.{slice_index_or, slice_set, Option, None, Some, IfSome, IsSome, IsTrue, MatchOption, ⊤, if◌then◌else◌}
use Rattle.risc_core.specs.Word.{bit}
use Rattle.risc_model.specs.declared.event.Event.{Event}
use Rattle.risc_model.specs.Exec.{exec}
use Rattle.risc_model.specs.MachineState.{CpuState, State}
use Rattle.risc_model.specs.Replay.{feed}
use Rattle.risc_search.specs.declared.access.Access.{Access}
use Rattle.risc_search.specs.declared.before.Before.{Before}
use Rattle.risc_search.specs.declared.condition.Clause.{Clause}
use Rattle.risc_search.specs.declared.condition.Condition.{Condition}
use Rattle.risc_search.specs.declared.condition.Condition.TheVariants.{Counter, Store, Change, Load, Becomes}
use Rattle.risc_search.specs.declared.condition.Condition.TheVariants.{Sends, SendsByte, Takes, Stops, Writes, WritesFlags, Alters, Is, IsWord}
use Rattle.risc_search.specs.declared.meeting.Armed.{Armed}
use Rattle.risc_search.specs.declared.stored_word.StoredWord.{StoredWord}
use Rattle.risc_search.specs.declared.span.Span.{Span}
use Rattle.risc_search.specs.Access.{next_access, next_instruction}
use Rattle.risc_search.specs.Condition.{Accesses, IsNextWriting, IsNextWritingFlags, IsWordOf, masked, register_value}
use Rattle.risc_search.specs.Search.{IsMet, NoneHolds}
use Rattle.risc_search.specs.Span.{IsIn}
use Rattle.risc_search.specs.Step.{Step, step_from}
use Rattle.risc_search.specs.Values.{IsOneOf}
use Rattle.risc_search.specs.inner.Due.{HasKind}
use Rattle.risc_search.specs.inner.Joined.{AreAll}

-- the number of the word of RAM that an access stores to
abbrev pub word_stored : Option Access → Option ℕ
word_stored None = None
word_stored (Some access) = if access.stores && nat_lt access.first (2 ^ 20) then Some (access.first / 4) else None

-- the next instruction's access to memory, and the word that it stores to
pub record IsBefore (before : Before) (s : State) : Type 0 where
  pub access : before.access ≡ next_access s.cpu s.words
  pub old : IfSome (word_stored before.access) (λ number. slice_index s.words number ≡ before.old)

-- all words are the same
abbrev pub AreSame : List ℕ → List ℕ → Type 0
AreSame before after = (w : ℕ) → slice_index after w ≡ slice_index before w

-- all words are the same, but for this one
pub record IsOnlyChange (before after : List ℕ) (stored : StoredWord) : Type 0 where
  pub old : slice_index before stored.number ≡ stored.old
  pub new : slice_index after stored.number ≡ stored.new
  pub others : (w : ℕ) → w ≢ stored.number → slice_index after w ≡ slice_index before w

-- the words before and after an instruction that stores to this word of RAM, if any
abbrev pub IsChange : List ℕ → List ℕ → Option StoredWord → Type 0
IsChange before after stored = MatchOption stored (AreSame before after) (IsOnlyChange before after)

-- no word changes but the one that an access stores to
abbrev pub HasStoredAlone : Option Access → List ℕ → List ℕ → Type 0
HasStoredAlone access before after = (w : ℕ) → word_stored access ≢ Some w → slice_index after w ≡ slice_index before w

-- what an instruction stored, by what was known before it and by the words after it
abbrev pub IsStoredSince : Before → List ℕ → Option StoredWord → Type 0
IsStoredSince before after stored =
    (s : State) → IsBefore before s → HasStoredAlone before.access s.words after → IsChange s.words after stored

-- the words before and after an instruction that stores to the word of RAM with this number, if any
abbrev pub HasStored : Option ℕ → List ℕ → List ℕ → Type 0
HasStored None before after = after ≡ before
HasStored (Some number) before after = (value : ℕ) × (after ≡ slice_set before number value)

-- a bit of the word differs, is named by the mask, and is in a byte in the range
pub record DiffersAt (bytes : Span) (mask : ℕ) (word : StoredWord) (index : ℕ) : Type 0 where
  pub named : bit mask index ≡ true
  pub byte : IsIn bytes (4 * word.number + index / 8)
  pub differs : bit word.old index ≢ bit word.new index

-- one of its bits is so
pub record Differs (bytes : Span) (mask : ℕ) (word : StoredWord) : Type 0 where
  pub index : ℕ
  pub inside : index < 32
  pub at : DiffersAt bytes mask word index

-- a condition is armed: by what is known before the instruction, it may hold
abbrev pub IsArmed : Condition → State → List Event → Type 0
IsArmed (Counter words) s taken = (s.cpu.stop ≡ 0) × IsIn words s.cpu.pc
IsArmed (Store bytes) s taken = Accesses true bytes (next_access s.cpu s.words)
IsArmed (Change bytes mask) s taken = IsSome (word_stored (next_access s.cpu s.words))
IsArmed (Load bytes) s taken = Accesses false bytes (next_access s.cpu s.words)
IsArmed (Becomes register value) s taken = register_value register s.cpu ≢ value
IsArmed Sends s taken = ⊤
IsArmed (SendsByte byte) s taken = ⊤
IsArmed (Takes kind) s taken = (s.cpu.stop ≡ 0) × HasKind kind taken
IsArmed Stops s taken = s.cpu.stop ≡ 0
IsArmed (Writes register) s taken = IsNextWriting register s.cpu (next_instruction s.cpu s.words)
IsArmed (WritesFlags mask) s taken = IsNextWritingFlags mask s.cpu (next_instruction s.cpu s.words)
IsArmed (Alters register mask) s taken = ⊤
IsArmed (Is register values) s taken = (s.cpu.stop ≡ 0) × IsOneOf values (register_value register s.cpu)
IsArmed (IsWord number mask values) s taken =
    (s.cpu.stop ≡ 0) × IsWordOf s.words number mask values

-- the bits of a register whose change a condition looks for, or 0
abbrev pub old_value : Condition → CpuState → ℕ
old_value (Alters register mask) cpu = masked register mask cpu
old_value _ cpu = 0

-- an armed condition is met: by its bits before the instruction, and by what is known after it, it holds
abbrev pub IsMetAfter : Condition → ℕ → CpuState → Option StoredWord → Option ℕ → Type 0
IsMetAfter (Counter words) old cpu stored sent = ⊤
IsMetAfter (Store bytes) old cpu stored sent = ⊤
IsMetAfter (Change bytes mask) old cpu stored sent = MatchOption stored ⊥ (Differs bytes mask)
IsMetAfter (Load bytes) old cpu stored sent = ⊤
IsMetAfter (Becomes register value) old cpu stored sent = register_value register cpu ≡ value
IsMetAfter Sends old cpu stored sent = IsSome sent
IsMetAfter (SendsByte byte) old cpu stored sent = sent ≡ Some byte
IsMetAfter (Takes kind) old cpu stored sent = ⊤
IsMetAfter Stops old cpu stored sent = cpu.stop ≢ 0
IsMetAfter (Writes register) old cpu stored sent = cpu.stop ≡ 0
IsMetAfter (WritesFlags mask) old cpu stored sent = cpu.stop ≡ 0
IsMetAfter (Alters register mask) old cpu stored sent = masked register mask cpu ≢ old
IsMetAfter (Is register values) old cpu stored sent = ⊤
IsMetAfter (IsWord number mask values) old cpu stored sent = ⊤

-- what is known of the clause at an index before the instruction
abbrev pub armed_at : List Armed → ℕ → Armed
armed_at armed k = slice_index_or armed k (record { is_armed = false; old = 0 })

-- it is whether its condition is armed, with the bits whose change that looks for
pub record IsKnown (condition : Condition) (s : State) (taken : List Event) (known : Armed) : Type 0 where
  pub armed : IsTrue known.is_armed ↔ IsArmed condition s taken
  pub old : known.old ≡ old_value condition s.cpu

-- what is known of each clause of a list
abbrev pub AreArmed : List Clause → State → List Event → List Armed → Type 0
AreArmed conditions s taken armed =
    (k : ℕ) (d : Clause) → k < length conditions → IsKnown (slice_index_or conditions k d).condition s taken (armed_at armed k)

-- a clause of the list is armed and met
abbrev pub IsMetAt : List Clause → List Armed → CpuState → Option StoredWord → Option ℕ → ℕ → Type 0
IsMetAt conditions armed cpu stored sent k =
    (d : Clause) → IsTrue (armed_at armed k).is_armed
    × IsMetAfter (slice_index_or conditions k d).condition (armed_at armed k).old cpu stored sent

-- so is each clause of the condition that begins at an index
abbrev pub AreMetFrom : List Clause → List Armed → CpuState → Option StoredWord → Option ℕ → ℕ → Type 0
AreMetFrom conditions armed cpu stored sent first = AreAll conditions (IsMetAt conditions armed cpu stored sent) first

-- there is no such condition before the index
abbrev pub NoneIsMet : List Clause → List Armed → CpuState → Option StoredWord → Option ℕ → ℕ → Type 0
NoneIsMet conditions armed cpu stored sent index = (k : ℕ) → k < index → ¬ (AreMetFrom conditions armed cpu stored sent k)

-- the first condition of a list that holds at a step, or that none does
abbrev pub IsAnswer : List Clause → List Event → Step → Option ℕ → Type 0
IsAnswer conditions es step met = MatchOption met (NoneHolds conditions es step) (IsMet conditions es step)

-- the same of the step of a count from a state
abbrev pub IsAnswerFrom : List Clause → List Event → ℕ → State → Option ℕ → Type 0
IsAnswerFrom conditions es n s met = IsAnswer conditions es (step_from es n s) met

-- that step sends nothing
abbrev pub IsSilentFrom : List Event → ℕ → State → Type 0
IsSilentFrom es n s = (exec (feed es n s)).1 ≡ None
