-- Ranges of numbers: from the first up to, but not including, the end.
use Rattle.std.specs.Prelude.{ℕ, ◌+◌, ◌<◌, ◌≤◌}
use Rattle.risc_search.specs.declared.span.Span.{Span}

-- a number is in a range
abbrev pub IsIn : Span → ℕ → Type 0
IsIn span n = (span.from ≤ n) × (n < span.end)

-- one of `count` numbers, of which `first` is the least, is in a range
pub record Meets (span : Span) (first count : ℕ) : Type 0 where
  pub number : ℕ
  pub least : first ≤ number
  pub below : number < first + count
  pub is_in : IsIn span number
