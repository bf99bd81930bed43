-- One more than the greatest number of a list, and 0 for the empty list.
use Rattle.std.proofs.Common.{◌≡◌, ℕ, suc, ◌+◌, ◌<◌, ◌≤◌, List, [], ◌∷◌, ◌++◌, max, arith}
use Rattle.std.specs.Prelude.{All}

abbrev pub top : List ℕ → ℕ
top [] = 0
top (x ∷ xs) = max (x + 1) (top xs)

pub top_below : (xs : List ℕ) (j : ℕ) → All (λ x. x < j) xs → top xs ≤ j
top_below [] j all = omega arith
top_below (x ∷ xs) j all =
    let here : x < j = all 0 x (omega arith) in
    let rest = top_below xs j (λ k d in_range. all (suc k) d (omega arith)) in
    omega arith

pub top_more : (xs : List ℕ) (j : ℕ) → All (λ x. x < j) xs → top (xs ++ j ∷ []) ≡ j + 1
top_more [] j all = omega arith
top_more (x ∷ xs) j all =
    let here : x < j = all 0 x (omega arith) in
    let rest = top_more xs j (λ k d in_range. all (suc k) d (omega arith)) in
    omega arith
