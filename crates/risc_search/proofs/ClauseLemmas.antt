-- Joined clauses: what holds of a list from an index on, by its indices.
use Rattle.std.proofs.Common.{refl, ◌≡◌, ◌≢◌, ◌∙◌, ◌+◌, ◌-◌, ◌<◌, ◌≤◌, ℕ, zero, suc, Bool, true, false, not, nat_eq, List, [], ◌∷◌, length, get_or, map, drop, ap, sym, subst, inl, inr, arith, length-drop}
use Rattle.std.specs.Prelude.{◌&&◌, ◌↔◌, IsTrue}
use Rattle.std.proofs.lemmas.Bool.{cases_eq, cases_lt, ne_eqb, true≢false}
use Rattle.std.proofs.lemmas.List.{get_or-map, get_or-drop, drop-map}
use Rattle.risc_model.specs.declared.event.Event.{Event}
use Rattle.risc_search.specs.declared.condition.Clause.{Clause}
use Rattle.risc_search.specs.declared.condition.Condition.{Condition}
use Rattle.risc_search.specs.declared.condition.Condition.TheVariants.{Sends}
use Rattle.risc_search.specs.Clauses.{HoldJoined, HoldsFrom, begins, is_joined}
use Rattle.risc_search.specs.Condition.{Holds}
use Rattle.risc_search.specs.Step.{Step}
use Rattle.risc_search.specs.inner.Joined.{AreAll, AreJoined, IsScanned}

-- ---- which clauses are joined

-- the clause at an index says whether it is joined
pub joined-is : (clauses : List Clause) (index : ℕ) (d : Clause) → index < length clauses → is_joined clauses index ≡ (get_or clauses index d).joined
joined-is clauses index d inside = get_or-map (λ (c : Clause). c.joined) clauses index d false inside

joined-drop : (clauses : List Clause) (first index : ℕ) → is_joined (drop first clauses) index ≡ is_joined clauses (first + index)
joined-drop clauses first index =
    ap (λ (bs : List Bool). get_or bs index false) (sym (drop-map (λ (c : Clause). c.joined) first clauses))
    ∙ get_or-drop first (map (λ (c : Clause). c.joined) clauses) index false

-- where the clause before one is joined, no condition begins at it
pub begins-not : (clauses : List Clause) (index : ℕ) → 0 < index → is_joined clauses (index - 1) ≡ true → begins clauses index ≡ false
begins-not clauses zero some joined = absurd (omega (arith, some))
begins-not clauses (suc k) some joined =
    let first : nat_eq (suc k) 0 ≡ false = ne_eqb (suc k) 0 (λ same. absurd (omega (arith, same))) in
    rw first (ap (λ (b : Bool). not b) joined)

-- one begins after a clause that is not joined
begins-next : (clauses : List Clause) (index : ℕ) → is_joined clauses index ≡ false → begins clauses (index + 1) ≡ true
begins-next clauses index ends =
    let first : nat_eq (index + 1) 0 ≡ false = ne_eqb (index + 1) 0 (λ same. absurd (omega (arith, same))) in
    rw first (ap (λ (b : Bool). not b) (ap (λ (n : ℕ). is_joined clauses n) (let e : index + 1 - 1 ≡ index = omega arith in e) ∙ ends))

-- ---- conditions by their clauses

pub all-map : (clauses : List Clause) (P Q : ℕ → Type 0) (first : ℕ) → ((k : ℕ) → k < length clauses → P k → Q k) → AreAll clauses P first → AreAll clauses Q first
all-map clauses P Q first on all = record {
  inside = all.inside;
  begins_there = all.begins_there;
  each = λ k reached joined. let here = all.each k reached joined in (here.0, on k here.0 here.1);
}

-- each clause of a condition that holds does
joined-each : (clauses : List Clause) (es : List Event) (step : Step) (n : ℕ) (d : Clause) → ((i : ℕ) → i < n → is_joined clauses i ≡ true) → HoldJoined clauses es step
    → (n < length clauses) × Holds (get_or clauses n d).condition es step
joined-each [] es step n d joined holds = absurd holds
joined-each (clause ∷ rest) es step zero d joined holds = (omega arith, holds.0)
joined-each (clause ∷ rest) es step (suc n) d joined holds =
    let more = joined-each rest es step n d (λ i below. joined (suc i) (omega (arith, below))) (holds.1 (joined 0 (omega arith))) in
    (omega (arith, more.0), more.1)

joined-before : (clause : Clause) (rest : List Clause) (n : ℕ) → clause.joined ≡ true → ((i : ℕ) → i < n → is_joined rest i ≡ true) → (i : ℕ) → i < suc n → is_joined (clause ∷ rest) i ≡ true
joined-before clause rest n here before zero below = here
joined-before clause rest n here before (suc i) below = before i (omega (arith, below))

joined-of : (clauses : List Clause) (es : List Event) (step : Step)
    → ((n : ℕ) → ((i : ℕ) → i < n → is_joined clauses i ≡ true) → (n < length clauses) × ((d : Clause) → Holds (get_or clauses n d).condition es step)) → HoldJoined clauses es step
joined-of [] es step each = let here = each 0 (λ i below. absurd (omega (arith, below))) in absurd (omega (arith, here.0))
joined-of (clause ∷ rest) es step each =
    let here = each 0 (λ i below. absurd (omega (arith, below))) in (
      here.1 clause,
      λ joined. joined-of rest es step (λ n before.
          let more = each (suc n) (joined-before clause rest n joined before) in
          (omega (arith, more.0), more.1)),
    )

-- a condition holds if each of its clauses does, and only then
pub all-hold : (clauses : List Clause) (es : List Event) (step : Step) (first : ℕ) → HoldsFrom clauses es step first → AreAll clauses (λ k. (d : Clause) → Holds (get_or clauses k d).condition es step) first
all-hold clauses es step first holds = record {
  inside = holds.inside;
  begins_there = holds.first;
  each = λ k reached joined.
      let n : ℕ = k - first in
      let place : first + n ≡ k = omega (arith, reached) in
      let before : (i : ℕ) → i < n → is_joined (drop first clauses) i ≡ true = λ i below. joined-drop clauses first i ∙ joined (first + i) (omega arith) (omega (arith, below, place)) in
      let there : (d : Clause) → (n < length (drop first clauses)) × Holds (get_or (drop first clauses) n d).condition es step = λ d. joined-each (drop first clauses) es step n d before holds.holds in
      let some : Clause = get_or clauses first (record { condition = Sends; joined = false }) in (
        omega (arith, (there some).0, length-drop first clauses, place),
        λ d. subst (λ (m : ℕ). Holds (get_or clauses m d).condition es step) place (subst (λ (c : Clause). Holds c.condition es step) (get_or-drop first clauses n d) (there d).1),
      );
}

pub holds-all : (clauses : List Clause) (es : List Event) (step : Step) (first : ℕ) → AreAll clauses (λ k. (d : Clause) → Holds (get_or clauses k d).condition es step) first → HoldsFrom clauses es step first
holds-all clauses es step first all = record {
  inside = all.inside;
  first = all.begins_there;
  holds = joined-of (drop first clauses) es step (λ n before.
      let joined : AreJoined clauses first (first + n) = λ k reached below.
      let i : ℕ = k - first in
      let place : first + i ≡ k = omega (arith, reached) in
      subst (λ (m : ℕ). is_joined clauses m ≡ true) place (sym (joined-drop clauses first i) ∙ before i (omega (arith, below, place))) in
      let there = all.each (first + n) (omega arith) joined in
      (omega (arith, there.0, length-drop first clauses), λ d. subst (λ (c : Clause). Holds c.condition es step) (sym (get_or-drop first clauses n d)) (there.1 d)));
}

-- the first clause of a condition that holds does
pub first-holds : (clauses : List Clause) (es : List Event) (step : Step) (first : ℕ) (d : Clause) → HoldsFrom clauses es step first → Holds (get_or clauses first d).condition es step
first-holds clauses es step first d holds = ((all-hold clauses es step first holds).each first (omega arith) (λ k reached below. absurd (omega (arith, reached, below)))).1 d

-- what follows for each condition alone follows for those that are joined
pub holds-map : (clauses : List Clause) (es : List Event) (x y : Step) (first : ℕ) → ((c : Condition) → Holds c es x → Holds c es y) → HoldsFrom clauses es x first → HoldsFrom clauses es y first
holds-map clauses es x y first on holds = holds-all clauses es y first (all-map clauses _ _ first (λ k inside held d. on (get_or clauses k d).condition (held d)) (all-hold clauses es x first holds))

-- ---- a loop over clauses

-- whether all are so, with one more
and-more : (P : ℕ → Type 0) (all here : Bool) (first index : ℕ) → (all ≡ true → (k : ℕ) → first ≤ k → k < index → P k) → (IsTrue here → P index) → (all && here) ≡ true → (k : ℕ) → first ≤ k → k < index + 1 → P k
and-more P true true first index met one is = λ k after below. elim (cases_eq k index) [
  | inl same ↦ subst P (sym same) (one refl)
  | inr other ↦ met refl k after (let ne : k ≢ index = other in omega (arith, below))
]
and-more P true false first index met one is = absurd (true≢false (sym is))
and-more P false here first index met one is = absurd (true≢false (sym is))

and-not : (P : ℕ → Type 0) (all here : Bool) (first index : ℕ) → first ≤ index → (all ≡ false → ¬ ((k : ℕ) → first ≤ k → k < index → P k)) → (P index → IsTrue here) → (all && here) ≡ false → ¬ ((k : ℕ) → first ≤ k → k < index + 1 → P k)
and-not P true true first index reached unmet one is = absurd (true≢false is)
and-not P true false first index reached unmet one is = λ each. true≢false (sym (one (each index reached (omega arith))))
and-not P false here first index reached unmet one is = λ each. unmet refl (λ k after below. each k after (omega (arith, below)))

-- past the clause that is the last of its condition, one of whose clauses is not so
none-next : (clauses : List Clause) (P : ℕ → Type 0) (first index : ℕ) → first ≤ index → AreJoined clauses first index → ((k : ℕ) → k < first → ¬ (AreAll clauses P k)) → ¬ ((k : ℕ) → first ≤ k → k < index + 1 → P k)
    → (k : ℕ) → k < index + 1 → ¬ (AreAll clauses P k)
none-next clauses P first index reached joined before unmet = λ k below all.
    elim (cases_lt k first) [
      | inl less ↦ before k less all
      | inr more ↦ elim (cases_eq k first) [
        | inl same ↦ unmet (λ n after inside. ((subst (λ (m : ℕ). AreAll clauses P m) same all).each n after (λ i low high. joined i low (omega (arith, high, inside)))).1)
        | inr other ↦
            let ne : k ≢ first = other in
            let linked = joined (k - 1) (omega arith) (omega (arith, below)) in
            true≢false (sym all.begins_there ∙ begins-not clauses k (omega arith) linked)
      ]
    ]

-- none is past yet
pub scan-none : (clauses : List Clause) (P : ℕ → Type 0) → IsScanned clauses P 0 0 true
scan-none clauses P = record {
  reached = omega arith;
  begins_there = refl;
  joined = λ k after below. absurd (omega (arith, below));
  are = λ _ k after below. absurd (omega (arith, below));
  are_not = λ is. absurd (true≢false is);
  none = λ k below. absurd (omega (arith, below));
}

-- past one that is joined to the next
pub scan-joined : (clauses : List Clause) (P : ℕ → Type 0) (first index : ℕ) (all here : Bool) → IsScanned clauses P first index all → is_joined clauses index ≡ true → (IsTrue here ↔ P index) → IsScanned clauses P first (index + 1) (all && here)
scan-joined clauses P first index all here s joined one = record {
  reached = omega (arith, s.reached);
  begins_there = s.begins_there;
  joined = λ k after below. elim (cases_eq k index) [
    | inl same ↦ subst (λ (n : ℕ). is_joined clauses n ≡ true) (sym same) joined
    | inr other ↦ s.joined k after (let ne : k ≢ index = other in omega (arith, below))
  ];
  are = λ is. and-more P all here first index s.are one.0 is;
  are_not = λ is. and-not P all here first index s.reached s.are_not one.1 is;
  none = s.none;
}

-- past one that is not, the last of a condition that is not so
pub scan-last : (clauses : List Clause) (P : ℕ → Type 0) (first index : ℕ) (all here : Bool) → IsScanned clauses P first index all → is_joined clauses index ≡ false → (IsTrue here ↔ P index) → (all && here) ≡ false → IsScanned clauses P (index + 1) (index + 1) true
scan-last clauses P first index all here s ends one is = record {
  reached = omega arith;
  begins_there = begins-next clauses index ends;
  joined = λ k after below. absurd (omega (arith, after, below));
  are = λ _ k after below. absurd (omega (arith, after, below));
  are_not = λ same. absurd (true≢false same);
  none = none-next clauses P first index s.reached s.joined s.none (and-not P all here first index s.reached s.are_not one.1 is);
}

-- the last of one that is so
pub scan-met : (clauses : List Clause) (P : ℕ → Type 0) (first index : ℕ) (all here : Bool) → IsScanned clauses P first index all → index < length clauses → is_joined clauses index ≡ false → (IsTrue here ↔ P index) → (all && here) ≡ true → AreAll clauses P first
scan-met clauses P first index all here s inside ends one is =
    let met = and-more P all here first index s.are one.0 is in
    record {
      inside = omega (arith, s.reached, inside);
      begins_there = s.begins_there;
      each = λ k after joined.
          elim (cases_lt index k) [
            | inl past ↦ absurd (true≢false (sym (joined index s.reached past) ∙ ends))
            | inr within ↦ (omega (arith, within, inside), met k after (omega (arith, within)))
          ];
    }

-- past the last clause of the list
pub scan-end : (clauses : List Clause) (P : ℕ → Type 0) (first index : ℕ) (all : Bool) → IsScanned clauses P first index all → length clauses ≤ index → (k : ℕ) → k < length clauses → ¬ (AreAll clauses P k)
scan-end clauses P first index all s end = λ k below found.
    elim (cases_lt k first) [
      | inl less ↦ s.none k less found
      | inr more ↦
          let over = found.each (length clauses) (omega (arith, below)) (λ i low high. s.joined i (omega (arith, more, low)) (omega (arith, high, end))) in
          absurd (omega (arith, over.0))
    ]
