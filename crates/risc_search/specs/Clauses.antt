-- Conditions that are joined (this project's own choice): each clause of a list has one, and a clause that is joined holds where the
-- next one holds, too.
use Rattle.std.specs.Prelude.{ℕ, ◌≡◌, ◌<◌, ◌-◌, ◌==◌, ◌||◌, not, Bool, true, false, List, [], ◌∷◌, length, map, drop}
use Rattle.std.specs.Prelude.{slice_index_or, IsTrue}
use Rattle.risc_model.specs.declared.event.Event.{Event}
use Rattle.risc_search.specs.declared.condition.Clause.{Clause}
use Rattle.risc_search.specs.Condition.{Holds}
use Rattle.risc_search.specs.Step.{Step}

-- the first clause of a list holds at a step, and if it is joined to the next one, so do those from there on
abbrev pub HoldJoined : List Clause → List Event → Step → Type 0
HoldJoined [] es step = ⊥
HoldJoined (clause ∷ rest) es step = Holds clause.condition es step × (clause.joined ≡ true → HoldJoined rest es step)

-- the clause at an index is joined to the one after it
abbrev pub is_joined : List Clause → ℕ → Bool
is_joined clauses index = slice_index_or (map (λ c. c.joined) clauses) index false

-- the clause at an index is the first of those that are joined with it
abbrev pub begins : List Clause → ℕ → Bool
begins clauses index = index == 0 || not (is_joined clauses (index - 1))

-- the clauses that are joined from an index on hold at a step, and the one there is their first
pub record HoldsFrom (clauses : List Clause) (es : List Event) (step : Step) (index : ℕ) : Type 0 where
  pub inside : index < length clauses
  pub first : IsTrue (begins clauses index)
  pub holds : HoldJoined (drop index clauses) es step
