-- If each number below n was taken once and no other number was, n numbers were taken.
use Rattle.std.proofs.Common.{◌≡◌, ℕ, zero, suc, ◌+◌, ◌<◌, ◌≤◌, List, [], ◌∷◌, length, sym, refl, ◌∙◌, arith, eqb, cond}
use Rattle.std.proofs.lemmas.Bool.Decides.{nat_tests}
use Rattle.oberon_claims.specs.declared.book.View.{View}
use Rattle.oberon_claims.specs.Counts.{times, once_below}
use Rattle.oberon_claims.specs.inner.Book.{times_taken, number_taken}
use Rattle.oberon_claims.proofs.Sums.{times_cons, once_is, once_here, one_same}

-- the sum of f over the numbers below n
abbrev tally : ℕ → (ℕ → ℕ) → ℕ
tally zero f = 0
tally (suc n) f = tally n f + f n

tally_zero : (n : ℕ) → tally n (λ x. 0) ≡ 0
tally_zero zero = refl
tally_zero (suc n) = let e = tally_zero n in omega arith

tally_add : (n : ℕ) (f g : ℕ → ℕ) → tally n (λ x. f x + g x) ≡ tally n f + tally n g
tally_add zero f g = refl
tally_add (suc n) f g = let e = tally_add n f g in omega arith

tally_once : (n m : ℕ) (f : ℕ → ℕ) → ((x : ℕ) → f x ≡ once_below x m) → n ≤ m → tally n f ≡ n
tally_once zero m f once within = refl
tally_once (suc n) m f once within =
    let e = tally_once n m f once (omega arith) in
    let o = once n in
    let here = once_here n m (omega arith) in
    omega arith

-- a number occurs once among the numbers below n, or not at all
tally_one : (n y : ℕ) → tally n (λ x. cond (eqb y x) 1 0) ≡ once_below y n
tally_one zero y = grind (arith, nat_tests)
tally_one (suc n) y = let e = tally_one n y in let s = step n y in omega arith
  where
    step : (n y : ℕ) → once_below y (suc n) ≡ once_below y n + cond (eqb y n) 1 0
    step n y = grind (arith, nat_tests)

length_as_tally : (n : ℕ) (xs : List ℕ) → ((x : ℕ) → 0 < times x xs → x < n) → length xs ≡ tally n (λ x. times x xs)
length_as_tally n [] below = sym (tally_zero n)
length_as_tally n (y ∷ ys) below =
    let rest = length_as_tally n ys (λ x there. below x (let f = times_cons x y ys in omega arith)) in
    let add = tally_add n (λ x. cond (eqb y x) 1 0) (λ x. times x ys) in
    let counted : tally n (λ x. times x (y ∷ ys)) ≡ tally n (λ x. cond (eqb y x) 1 0 + times x ys) = λ i. tally n (λ x. times_cons x y ys i) in
    let one = tally_one n y in
    let is = once_here y n (below y (let f = times_cons y y ys in let s = one_same y y refl in omega arith)) in
    omega arith

number_as_tally : (n : ℕ) (views : List View) → ((x : ℕ) → 0 < times_taken x views → x < n) → number_taken views ≡ tally n (λ x. times_taken x views)
number_as_tally n [] below = sym (tally_zero n)
number_as_tally n (v ∷ vs) below =
    let here = length_as_tally n v.taken (λ x there. below x (omega arith)) in
    let rest = number_as_tally n vs (λ x there. below x (omega arith)) in
    let add = tally_add n (λ x. times x v.taken) (λ x. times_taken x vs) in
    omega arith

pub number_of_each_once : (n : ℕ) (views : List View) → ((x : ℕ) → times_taken x views ≡ once_below x n) → number_taken views ≡ n
number_of_each_once n views once =
    number_as_tally n views (λ x there. once_is x n (let o = once x in omega arith)) ∙ tally_once n n (λ x. times_taken x views) once (omega arith)
