-- Joined clauses by their indices.
use Rattle.std.specs.Prelude.{ℕ, ◌≡◌, ◌<◌, ◌≤◌, Bool, true, false, List, IsTrue, length}
use Rattle.risc_search.specs.declared.condition.Clause.{Clause}
use Rattle.risc_search.specs.Clauses.{begins, is_joined}

-- each clause from one index up to, but not including, another is joined to the next
abbrev pub AreJoined : List Clause → ℕ → ℕ → Type 0
AreJoined clauses first end = (k : ℕ) → first ≤ k → k < end → is_joined clauses k ≡ true

-- a clause of the list is one of those that are joined from an index on
pub record IsClauseOf (clauses : List Clause) (first index : ℕ) : Type 0 where
  pub reached : first ≤ index
  pub inside : index < length clauses
  pub joined : AreJoined clauses first index

-- a condition begins at an index, and each of its clauses, up to one that is not joined, is as P says
pub record AreAll (clauses : List Clause) (P : ℕ → Type 0) (first : ℕ) : Type 0 where
  pub inside : first < length clauses
  pub begins_there : IsTrue (begins clauses first)
  pub each : (k : ℕ) → first ≤ k → AreJoined clauses first k → (k < length clauses) × P k

-- a loop over clauses is before an index, in the condition that begins at another, of which all clauses so far are as P says, or not all;
-- no condition before that one is so
pub record IsScanned (clauses : List Clause) (P : ℕ → Type 0) (first index : ℕ) (all : Bool) : Type 0 where
  pub reached : first ≤ index
  pub begins_there : IsTrue (begins clauses first)
  pub joined : AreJoined clauses first index
  pub are : all ≡ true → (k : ℕ) → first ≤ k → k < index → P k
  pub are_not : all ≡ false → ¬ ((k : ℕ) → first ≤ k → k < index → P k)
  pub none : (k : ℕ) → k < first → ¬ (AreAll clauses P k)
