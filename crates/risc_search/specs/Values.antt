-- Ranges of the values of words. They go round: 0 comes after 2 ^ 32 - 1. So signed numbers have ranges, too, and all words but one
-- are a range (this project's own choice).
use Rattle.std.specs.Prelude.{ℕ, ◌≤◌, ◌+◌, ◌-◌, ◌%◌, ◌^◌}
use Rattle.risc_search.specs.declared.values.Values.{Values}

-- how many steps of 1 lead up from one word to another
abbrev pub steps_up : ℕ → ℕ → ℕ
steps_up from to = (to + (2 ^ 32 - from)) % 2 ^ 32

-- a word is in a range: it is no further up from the first value than the last value is
abbrev pub IsOneOf : Values → ℕ → Type 0
IsOneOf values n = steps_up values.least n ≤ steps_up values.least values.most
