-- What the watch of a search ignores: instructions that concern none of its conditions.
use Rattle.std.specs.Prelude.{ℕ, ◌≡◌, ◌<◌, ◌/◌, ◌^◌, Bool, true, false, List, length}
use Rattle.std.specs.Prelude.{slice_index_or, Option, None, Some, IfSome, IsTrue, ⊤, ◌⊎◌, if◌then◌else◌}
use Rattle.risc_core.specs.declared.instruction.Instr.{Instr}
use Rattle.risc_core.specs.declared.instruction.Instr.TheVariants.{Reg, Imm, Load, Store, BranchReg, BranchOff}
use Rattle.risc_core.specs.Instruction.{instruction_of}
use Rattle.risc_search.specs.declared.concerns.Concerns.{Concerns}
use Rattle.risc_search.specs.declared.condition.Clause.{Clause}
use Rattle.risc_search.specs.declared.condition.Condition.{Condition}
use Rattle.risc_search.specs.declared.condition.Condition.TheVariants.{Counter, Store as Stored, Change, Load as Loaded}
use Rattle.risc_search.specs.declared.condition.Condition.TheVariants.{Becomes, Sends, SendsByte, Takes, Stops, Writes, WritesFlags, Alters, Is, IsWord}
use Rattle.risc_search.specs.declared.register.Register.{Register}
use Rattle.risc_search.specs.declared.register.Register.TheVariants.{Numbered, Auxiliary, Flags}
use Rattle.risc_search.specs.Access.{accessed}
use Rattle.risc_search.specs.Clauses.{begins}
use Rattle.risc_search.specs.Condition.{Accesses}
use Rattle.risc_search.specs.Span.{IsIn}
use Rattle.risc_search.specs.inner.Joined.{IsClauseOf}

-- the one of R0 to R15 that an instruction writes, if it does not stop the machine
unfoldable pub written : Instr → Option ℕ
written (Reg op u v a b c) = Some a
written (Imm op u v a b im) = Some a
written (Load byte a b off) = Some a
written (Store byte a b off) = None
written (BranchReg cond link c) = if link then Some 15 else None
written (BranchOff cond link off) = if link then Some 15 else None

-- the writes of a register are of concern
abbrev pub IsNamed : Concerns → ℕ → Bool
IsNamed concerns register = slice_index_or concerns.registers register false

-- an instruction is of no concern, by its word number, the registers before it, and its word
pub record IsIgnored (concerns : Concerns) (pc : ℕ) (r : List ℕ) (word : ℕ) : Type 0 where
  pub counter : ¬ (IsIn concerns.counters pc)
  pub stores : ¬ (Accesses true concerns.stores (accessed (instruction_of word) r))
  pub loads : ¬ (Accesses false concerns.loads (accessed (instruction_of word) r))
  pub register : IfSome (written (instruction_of word)) (λ a. IsNamed concerns a ≡ false)

-- each instruction is of concern
abbrev pub IsAll : Concerns → Type 0
IsAll concerns = (n : ℕ) → n < 2 ^ 18 → IsIn concerns.counters n

-- the writes of a register of a condition are of concern; H and the flags have no watch of their own
abbrev pub CoversRegister : Concerns → Register → Type 0
CoversRegister concerns (Numbered number) = (IsNamed concerns number ≡ true) ⊎ IsAll concerns
CoversRegister concerns Auxiliary = IsAll concerns
CoversRegister concerns Flags = IsAll concerns

-- each instruction at which a condition may hold is of concern, unless it sends, or stops the machine
abbrev pub Covers : Concerns → Condition → Type 0
Covers concerns (Counter words) = (n : ℕ) → IsIn words n → IsIn concerns.counters n
Covers concerns (Stored bytes) = (n : ℕ) → IsIn bytes n → IsIn concerns.stores n
Covers concerns (Change bytes mask) = (n m : ℕ) → IsIn bytes n → m / 4 ≡ n / 4 → m < 2 ^ 20 → IsIn concerns.stores m
Covers concerns (Loaded bytes) = (n : ℕ) → IsIn bytes n → IsIn concerns.loads n
Covers concerns (Becomes register value) = CoversRegister concerns register
Covers concerns Sends = ⊤
Covers concerns (SendsByte byte) = ⊤
Covers concerns (Takes kind) = ⊤
Covers concerns Stops = ⊤
Covers concerns (Writes register) = CoversRegister concerns register
Covers concerns (WritesFlags mask) = CoversRegister concerns Flags
Covers concerns (Alters register mask) = CoversRegister concerns register
Covers concerns (Is register values) = IsAll concerns
Covers concerns (IsWord number mask values) = IsAll concerns

-- a clause of the condition that begins at an index is covered: where that one does not hold, nor does the condition
pub record CoversFrom (concerns : Concerns) (conditions : List Clause) (first : ℕ) : Type 0 where
  pub index : ℕ
  pub clause : IsClauseOf conditions first index
  pub covers : (d : Clause) → Covers concerns (slice_index_or conditions index d).condition

-- and so for each condition of a list
abbrev pub CoverAll : Concerns → List Clause → Type 0
CoverAll concerns conditions =
    (first : ℕ) → first < length conditions → IsTrue (begins conditions first) → CoversFrom concerns conditions first

-- what is of concern before is of concern after
pub record Includes (new old : Concerns) : Type 0 where
  pub counters : (n : ℕ) → IsIn old.counters n → IsIn new.counters n
  pub stores : (n : ℕ) → IsIn old.stores n → IsIn new.stores n
  pub loads : (n : ℕ) → IsIn old.loads n → IsIn new.loads n
  pub registers : (n : ℕ) → IsNamed old n ≡ true → IsNamed new n ≡ true
