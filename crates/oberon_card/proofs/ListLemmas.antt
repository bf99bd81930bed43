-- The end of a list, from which one element goes after the other, and its front, which grows by one.
use Rattle.std.proofs.Common.{◌≡◌, ℕ, ◌+◌, ◌-◌, ◌<◌, ◌≤◌, List, [], ◌∷◌, ◌++◌, length, get_or}
use Rattle.std.proofs.Common.{take, drop, set, min, ◌∙◌, sym, ap, arith}
use Rattle.std.proofs.lemmas.List.{drop_all, drop_more, take_more_set}
use Rattle.std.proofs.Math.Nat.{min-le_right}

-- a number above n counts as n
pub beyond : (n left : ℕ) → n - left ≡ n - min left n
beyond n left = grind arith

-- something is left: its first element, and the rest
pub some_left : (n left m : ℕ) (xs : List ℕ) → length xs ≡ n → m ≡ min left n → 0 < m
    → drop (n - left) xs ≡ get_or xs (n - m) 0 ∷ drop (n - (m - 1)) xs
some_left n left m xs whole is some =
    let most : m ≤ n = grind (arith, min-le_right left n) in
    let at : n - left ≡ n - m = grind (arith, beyond n left) in
    let inside : n - m < length xs = omega arith in
    let next : n - m + 1 ≡ n - (m - 1) = omega arith in
    ap (λ k. drop k xs) at ∙ drop_more xs (n - m) 0 inside ∙ ap (λ k. get_or xs (n - m) 0 ∷ drop k xs) next

-- nothing is left
pub none_left : (n left m : ℕ) (xs : List ℕ) → length xs ≡ n → m ≡ min left n → 0 < n → m ≤ 0 → drop (n - left) xs ≡ []
none_left n left m xs whole is positive none =
    let zero_left : left ≡ 0 = grind arith in
    let all : length xs ≤ n - left = omega arith in
    drop_all (n - left) xs all

-- the front of a list with an element more
pub one_more : (k : ℕ) (xs : List ℕ) (x : ℕ) → k < length xs → take k xs ++ x ∷ [] ≡ take (k + 1) (set xs k x)
one_more k xs x inside = sym (take_more_set xs k x inside)
