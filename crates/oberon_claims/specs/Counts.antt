-- How often a number occurs in a list.
use Rattle.std.specs.Prelude.{◌≡◌, ℕ, List, count_by, nat_eq, nat_lt, if◌then◌else◌}

-- how often x occurs in the list
abbrev pub times : ℕ → List ℕ → ℕ
times x xs = count_by (λ y. nat_eq y x) xs

-- 1 for each number below n, and 0 for any other
abbrev pub once_below : ℕ → ℕ → ℕ
once_below x n = if nat_lt x n then 1 else 0

-- the list has each number below n exactly once, and no other number
abbrev pub IsEachOnceBelow : ℕ → List ℕ → Type 0
IsEachOnceBelow n xs = (x : ℕ) → times x xs ≡ once_below x n
