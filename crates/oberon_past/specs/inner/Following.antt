-- Inputs that follow others, tested one after another.
use Rattle.std.specs.Prelude.{ℕ, ◌≡◌, ◌+◌, ◌<◌, ◌≤◌, List, ◌++◌, length, max}
use Rattle.risc_model.specs.declared.event.Event.{Event}
use Rattle.risc_model.specs.InputOrder.{IsRightIndex, count_at, count_before}

-- the first i inputs follow those before them, none of them is before the count `end`, and the next one may have the count `least`
pub record FollowUpTo (before inputs : List Event) (end i least : ℕ) : Type 0 where
  pub right : (k : ℕ) → k < i → IsRightIndex (before ++ inputs) (length before + k)
  pub after : (k : ℕ) → k < i → end ≤ count_at inputs k
  pub least_is : least ≡ max end (count_before (before ++ inputs) (length before + i))
