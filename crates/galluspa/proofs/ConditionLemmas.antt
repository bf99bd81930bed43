-- Which conditions of a list can be joined, from one to the next.
use Rattle.std.proofs.Common.{◌≡◌, ◌∙◌, ◌+◌, ◌-◌, ◌<◌, ◌≤◌, ℕ, Bool, true, false, List, Option, None, Some, length, map, nat_eq, get_or, slice_get, ap, subst, sym, inl, inr, arith}
use Rattle.std.specs.Prelude.{◌↔◌, IsTrue}
use Rattle.std.proofs.lemmas.Bool.{cases_eq, cases_lt, eq-eqb, eqb-true, true≢false}
use Rattle.std.proofs.lemmas.List.{get_or-map, length-map}
use Rattle.std.proofs.lemmas.Option.{slice_get-get_or, slice_get_within}
use Rattle.galluspa.specs.declared.conditions.RawCondition.{RawCondition}
use Rattle.galluspa.specs.Conditions.{AreJoinable, is_joined}

-- one of a condition and the three after it is not joined
abbrev pub EndsNear : List Bool → ℕ → Type 0
EndsNear bs index = (k : ℕ) × (index ≤ k) × (k < index + 4) × (slice_get bs k ≡ Some false)

-- some conditions are joined
abbrev pub AreAllJoined : List Bool → ℕ → ℕ → Type 0
AreAllJoined bs first end = (k : ℕ) → first ≤ k → k < end → slice_get bs k ≡ Some true

-- whether the condition at an index is
pub joined-at : (raws : List RawCondition) (index : ℕ) (d : RawCondition) → index < length raws → slice_get (map is_joined raws) index ≡ Some (is_joined (get_or raws index d))
joined-at raws index d inside =
    slice_get-get_or (map is_joined raws) index false (omega (arith, inside, length-map raws is_joined))
    ∙ ap (λ (b : Bool). Some b) (get_or-map is_joined raws index d false inside)

value_or_true : Option Bool → Bool
value_or_true None = true
value_or_true (Some b) = b

true-false : Some true ≡ Some false → ⊥
unfolding value_or_true
true-false same = true≢false (ap value_or_true same)

-- a loop is before an index, and the last conditions before it are joined: fewer than four
pub record IsCounted (bs : List Bool) (index joined : ℕ) : Type 0 where
  pub few : joined < 4
  pub within : joined ≤ index
  pub last : AreAllJoined bs (index - joined) index
  pub before : (j : ℕ) → j < index - joined → EndsNear bs j

-- one more that is joined
joined-more : (bs : List Bool) (index joined : ℕ) → joined ≤ index → slice_get bs index ≡ Some true → AreAllJoined bs (index - joined) index → AreAllJoined bs (index + 1 - (joined + 1)) (index + 1)
joined-more bs index joined few here last = λ k after below. elim (cases_eq k index) [
  | inl same ↦ subst (λ (n : ℕ). slice_get bs n ≡ Some true) (sym same) here
  | inr other ↦ last k (omega (arith, after, few)) (let ne : k ≡ index → ⊥ = other in omega (arith, below))
]

-- one that is not: it is near each of those before it
near-more : (bs : List Bool) (index joined : ℕ) → joined < 4 → slice_get bs index ≡ Some false → ((j : ℕ) → j < index - joined → EndsNear bs j) → (j : ℕ) → j < index + 1 → EndsNear bs j
near-more bs index joined few here before = λ j below. elim (cases_lt j (index - joined)) [
  | inl less ↦ before j less
  | inr more ↦ (index, omega arith, omega (arith, few, more), here)
]

pub counted-joined : (bs : List Bool) (index joined : ℕ) → IsCounted bs index joined → slice_get bs index ≡ Some true → joined + 1 < 4 → IsCounted bs (index + 1) (joined + 1)
counted-joined bs index joined counted here few = record {
  few = few;
  within = omega (arith, counted.within);
  last = joined-more bs index joined counted.within here counted.last;
  before = λ j below. counted.before j (omega (arith, below));
}

pub counted-plain : (bs : List Bool) (index joined : ℕ) → IsCounted bs index joined → slice_get bs index ≡ Some false → IsCounted bs (index + 1) 0
counted-plain bs index joined counted here = record {
  few = omega arith;
  within = omega arith;
  last = λ k after below. absurd (omega (arith, after, below));
  before = λ j below. near-more bs index joined counted.few here counted.before j (omega (arith, below));
}

-- four that are joined
pub counted-four : (bs : List Bool) (index joined : ℕ) → IsCounted bs index joined → slice_get bs index ≡ Some true → 4 ≤ joined + 1 → index < length bs → ¬ (AreJoinable bs)
counted-four bs index joined counted here many inside = λ joinable.
    let within = counted.within in
    let near = joinable (index - 3) (omega (arith, inside)) in
    true-false (sym (joined-more bs index joined within here counted.last near.0 (omega (arith, near.1, many, within)) (omega (arith, near.2, many, within))) ∙ near.3)

-- after the last of a list
pub counted-end : (bs : List Bool) (at joined : ℕ) → IsCounted bs at joined → at ≡ length bs → IsTrue (nat_eq joined 0) ↔ AreJoinable bs
counted-end bs at joined counted end = (
  λ is index inside. counted.before index (let none = eqb-true joined 0 is in omega (arith, inside, none, end)),
  λ joinable. elim (cases_eq joined 0) [
    | inl none ↦ eq-eqb joined 0 none
    | inr some ↦
        let more : 0 < joined = (let ne : joined ≡ 0 → ⊥ = some in omega arith) in
        let within = counted.within in
        let near = joinable (length bs - 1) (omega (arith, more, within, end)) in
        let below = slice_get_within bs near.0 false near.3 in
        absurd (true-false (sym (counted.last near.0 (omega (arith, near.1, more, end)) (omega (arith, below, end))) ∙ near.3))
  ],
)
