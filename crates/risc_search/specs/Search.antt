-- The answers of a search: the first count, or the last, at which a condition of a list holds; and how far its machine runs. A list has
-- clauses, and those that are joined are one condition, whose index is that of the first of them.
use Rattle.std.specs.Prelude.{ℕ, ◌<◌, ◌≤◌, ◌+◌, List, Option, None, Some, MatchOption}
use Rattle.risc_model.specs.declared.event.Event.{Event}
use Rattle.risc_model.specs.MachineState.{State}
use Rattle.risc_search.specs.declared.condition.Clause.{Clause}
use Rattle.risc_search.specs.declared.hit.Hit.{Hit}
use Rattle.risc_search.specs.Clauses.{HoldsFrom}
use Rattle.risc_search.specs.Step.{Step, step_at}

-- no condition of the list holds at a step
abbrev pub NoneHolds : List Clause → List Event → Step → Type 0
NoneHolds conditions es step = (k : ℕ) → ¬ (HoldsFrom conditions es step k)

-- the condition at an index of the list holds at a step, and none before it does
pub record IsMet (conditions : List Clause) (es : List Event) (step : Step) (index : ℕ) : Type 0 where
  pub holds : HoldsFrom conditions es step index
  pub least : (k : ℕ) → k < index → ¬ (HoldsFrom conditions es step k)

-- no condition holds at any count from `low` up to, but not including, `high`, in a run from the count `from`
abbrev pub NoneIn : List Clause → List Event → ℕ → State → ℕ → ℕ → Type 0
NoneIn conditions es from s low high = (n : ℕ) → low ≤ n → n < high → NoneHolds conditions es (step_at es from s n)

-- a count of the range at which a condition holds
pub record IsHit (conditions : List Clause) (es : List Event) (from to : ℕ) (s : State) (hit : Hit) : Type 0 where
  pub reached : from ≤ hit.count
  pub inside : hit.count < to
  pub met : IsMet conditions es (step_at es from s hit.count) hit.condition

-- the first count of the range, or that there is none
abbrev pub IsFirst : List Clause → List Event → ℕ → ℕ → State → Option Hit → Type 0
IsFirst conditions es from to s found =
    MatchOption found (NoneIn conditions es from s from to)
    (λ hit. IsHit conditions es from to s hit × NoneIn conditions es from s from hit.count)

-- the last count of the range, or that there is none
abbrev pub IsLast : List Clause → List Event → ℕ → ℕ → State → Option Hit → Type 0
IsLast conditions es from to s found =
    MatchOption found (NoneIn conditions es from s from to)
    (λ hit. IsHit conditions es from to s hit × NoneIn conditions es from s (hit.count + 1) to)

-- the count at which a search for the first count ends: its machine has done the instruction of the hit, and no other after it; or
-- it is at the end of the range if there is none
abbrev pub count_after : ℕ → Option Hit → ℕ
count_after to None = to
count_after to (Some hit) = hit.count + 1
