-- The delta of a memory.
use Rattle.std.proofs.Common.{◌≡◌, ◌≢◌, ℕ, zero, suc, ◌+◌, ◌<◌, List, [], ◌∷◌, ◌++◌, inl, inr, Bool, true, false, not, cond, get_or, length, map, nat_eq, refl, ap, sym, subst, ◌∙◌, arith}
use Rattle.std.proofs.lemmas.Bool.{cases_lt, false≢true}
use Rattle.std.proofs.lemmas.List.{append-nil, map-append, map-id}
use Rattle.std.proofs.lemmas.List.Elements.{All-filter, Contains-append_left, Contains-push, filter_passes}
use Rattle.std.proofs.lemmas.List.FromFn.{filter_of_map_range_with_len_more, get_or-range_with_len, length-range_with_len}
use Rattle.std.proofs.lemmas.List.Kept.{IsStrictlyIncreasing-filter}
use Rattle.std.specs.Bool.{MatchBool}
use Rattle.std.specs.Cmp.Lexicographic.{pointwise, told_text}
use Rattle.std.specs.List.{All, Contains, range_with_len}
use Rattle.std.specs.List.Sorted.{IsStrictlyIncreasing}
use Rattle.risc_pages.specs.declared.page.Page.{Page}
use Rattle.risc_pages.specs.Delta.{AreDifferences, changed_below, differs_at}
use Rattle.risc_pages.specs.Pages.{page_at}

same_by : (r : Bool) (P : Type 0) → MatchBool r P (P → ⊥) → P → not r ≡ false
same_by true P decided h = refl
same_by false P decided h = absurd (decided h)

other_by : (r : Bool) (P : Type 0) → MatchBool r P (P → ⊥) → (P → ⊥) → not r ≡ true
other_by true P decided h = absurd (h decided)
other_by false P decided h = refl

pub differs_at-same : (base words : List ℕ) (p : ℕ) → page_at words p ≡ page_at base p → differs_at base words p ≡ false
unfolding differs_at
differs_at-same base words p same = same_by (pointwise nat_eq (page_at words p) (page_at base p)) (page_at words p ≡ page_at base p) (told_text (page_at words p) (page_at base p) _ refl) same

pub differs_at-other : (base words : List ℕ) (p : ℕ) → (page_at words p ≡ page_at base p → ⊥) → differs_at base words p ≡ true
unfolding differs_at
differs_at-other base words p other = other_by (pointwise nat_eq (page_at words p) (page_at base p)) (page_at words p ≡ page_at base p) (told_text (page_at words p) (page_at base p) _ refl) other

-- no slot is below 0
pub changed_below-zero : (base words : List ℕ) → changed_below 0 base words ≡ []
unfolding changed_below
changed_below-zero base words = refl

-- one slot more
changed_below-more : (n : ℕ) (base words : List ℕ) → changed_below (n + 1) base words ≡ changed_below n base words ++ cond (differs_at base words n) (n ∷ []) []
unfolding changed_below
changed_below-more n base words =
    simp map-id at (filter_of_map_range_with_len_more (differs_at base words) (λ x. x) 0 n n (omega arith))

-- a slot whose page differs, with the page
pub slots_more : (n : ℕ) (base words : List ℕ) (cs : List (ℕ × Page)) (page : Page) → map (λ (c : ℕ × Page). c.0) cs ≡ changed_below n base words → (page_at words n ≡ page_at base n → ⊥) → map (λ (c : ℕ × Page). c.0) (cs ++ (n, page) ∷ []) ≡ changed_below (n + 1) base words
slots_more n base words cs page h other =
    map-append (λ (c : ℕ × Page). c.0) cs ((n, page) ∷ [])
    ∙ ap (λ (z : List ℕ). z ++ n ∷ []) h
    ∙ sym (changed_below-more n base words ∙ ap (λ (b : Bool). changed_below n base words ++ cond b (n ∷ []) []) (differs_at-other base words n other))

-- a slot whose page does not differ
pub slots_same : (n : ℕ) (base words : List ℕ) (cs : List (ℕ × Page)) → map (λ (c : ℕ × Page). c.0) cs ≡ changed_below n base words → page_at words n ≡ page_at base n → map (λ (c : ℕ × Page). c.0) cs ≡ changed_below (n + 1) base words
slots_same n base words cs h same =
    h ∙ sym (changed_below-more n base words ∙ ap (λ (b : Bool). changed_below n base words ++ cond b (n ∷ []) []) (differs_at-same base words n same) ∙ append-nil (changed_below n base words))

-- the test is true only if the pages differ
differs_at-true : (base words : List ℕ) (p : ℕ) → differs_at base words p ≡ true → page_at words p ≡ page_at base p → ⊥
differs_at-true base words p decided same = false≢true (sym (differs_at-same base words p same) ∙ decided)

range-rising : (n : ℕ) → IsStrictlyIncreasing (range_with_len 0 n)
range-rising n k h =
    let count : length (range_with_len 0 n) ≡ n = length-range_with_len 0 n in
    let here : get_or (range_with_len 0 n) k 0 ≡ 0 + k = get_or-range_with_len 0 n k 0 (omega arith) in
    let next : get_or (range_with_len 0 n) (k + 1) 0 ≡ 0 + (k + 1) = get_or-range_with_len 0 n (k + 1) 0 (omega arith) in
    omega arith

range-below : (n : ℕ) → All (λ p. p < n) (range_with_len 0 n)
range-below n k d h =
    let count : length (range_with_len 0 n) ≡ n = length-range_with_len 0 n in
    let here : get_or (range_with_len 0 n) k d ≡ 0 + k = get_or-range_with_len 0 n k d (omega arith) in
    omega arith

changed_below-rising : (n : ℕ) (base words : List ℕ) → IsStrictlyIncreasing (changed_below n base words)
unfolding changed_below
changed_below-rising n base words = IsStrictlyIncreasing-filter (differs_at base words) (range_with_len 0 n) (range-rising n)

changed_below-each : (n : ℕ) (base words : List ℕ) → All (λ p. (p < n) × (page_at words p ≢ page_at base p)) (changed_below n base words)
unfolding changed_below
changed_below-each n base words k d h = (
  All-filter (differs_at base words) (λ p. p < n) (range_with_len 0 n) (range-below n) k d h,
  differs_at-true base words _ (filter_passes (differs_at base words) (range_with_len 0 n) k d h),
)

changed_below-all : (n : ℕ) (base words : List ℕ) (p : ℕ) → p < n → (page_at words p ≡ page_at base p → ⊥) → Contains (changed_below n base words) p
changed_below-all zero base words p h other = absurd (omega arith)
changed_below-all (suc n) base words p h other =
    let P : ℕ → Type 0 = λ m. Contains (changed_below m base words) p in
    let Q : List ℕ → Type 0 = λ ps. Contains ps p in
    let count : n + 1 ≡ suc n = omega arith in
    subst P count (subst Q (sym (changed_below-more n base words))
    (elim (cases_lt p n) [
      | inl below ↦ Contains-append_left (changed_below n base words) (cond (differs_at base words n) (n ∷ []) []) p (changed_below-all n base words p below other)
      | inr above ↦
          let here : p ≡ n = omega arith in
          let R : ℕ → Type 0 = λ m. Contains (changed_below n base words ++ cond (differs_at base words m) (n ∷ []) []) p in
          let S : ℕ → Type 0 = λ m. Contains (changed_below n base words ++ m ∷ []) p in
          let B : Bool → Type 0 = λ b. Contains (changed_below n base words ++ cond b (n ∷ []) []) p in
          subst R here (subst B (sym (differs_at-other base words p other)) (subst S here (Contains-push (changed_below n base words) p)))
    ]))

-- the delta lists differences only, and all of them
pub AreDifferences-changed_below : (base words slots : List ℕ) → slots ≡ changed_below 1024 base words → AreDifferences base words slots
AreDifferences-changed_below base words slots is =
    let P : List ℕ → Type 0 = λ ps. AreDifferences base words ps in
    subst P (sym is) (record {
      rising = changed_below-rising 1024 base words;
      each = changed_below-each 1024 base words;
      all = changed_below-all 1024 base words;
    })
