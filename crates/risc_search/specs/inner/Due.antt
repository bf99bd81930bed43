-- Which inputs a search still has to take.
use Rattle.std.specs.Prelude.{ℕ, ◌≡◌, ◌≢◌, ◌<◌, ◌≤◌, List, length}
use Rattle.risc_model.specs.declared.event.Event.{Event}
use Rattle.risc_model.specs.InputOrder.{count_at}
use Rattle.risc_search.specs.Condition.{kind_at}

-- no input has a count from `low` up to, but not including, `high`
abbrev pub IsQuiet : List Event → ℕ → ℕ → Type 0
IsQuiet es low high = (n : ℕ) → low ≤ n → n < high → (k : ℕ) → k < length es → count_at es k ≢ n

-- an input of the list is of the kind
pub record HasKind (kind : ℕ) (es : List Event) : Type 0 where
  pub index : ℕ
  pub inside : index < length es
  pub kind_is : kind_at es index ≡ kind
