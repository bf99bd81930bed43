-- Lists of hits: there is one of a range, and how those of its parts make it up.
use Rattle.std.proofs.Common.{refl, ◌≡◌, ◌∙◌, ◌+◌, ◌-◌, ◌≤◌, ◌++◌, ℕ, List, [], ◌∷◌, ap, subst, sym, inl, inr, arith}
use Rattle.std.proofs.lemmas.Bool.{cases_lt}
use Rattle.std.proofs.lemmas.List.{append-nil}
use Rattle.risc_model.specs.declared.event.Event.{Event}
use Rattle.risc_model.specs.MachineState.{State}
use Rattle.risc_model.specs.Replay.{run_of}
use Rattle.risc_search.specs.declared.condition.Clause.{Clause}
use Rattle.risc_search.specs.declared.hit.Hit.{Hit}
use Rattle.risc_search.specs.Hits.{AreHits, EndsAt}
use Rattle.risc_search.specs.Search.{IsHit, IsMet, NoneIn}
use Rattle.risc_search.specs.Step.{step_at}
use Rattle.risc_search.proofs.SearchLemmas.{hit-from, none-both, none-within}

-- ---- parts of a range

-- counts before the range at which nothing holds
hits-before : (conditions : List Clause) (es : List Event) (from : ℕ) (s : State) (low mid high : ℕ) (hits : List Hit) → low ≤ mid → NoneIn conditions es from s low mid → AreHits conditions es from s mid high hits → AreHits conditions es from s low high hits
hits-before conditions es from s low mid high [] more none hits = none-both conditions es from s low mid high none hits
hits-before conditions es from s low mid high (hit ∷ rest) more none hits = (omega (arith, more, hits.0), hits.1, none-both conditions es from s low mid hit.count none hits.2, hits.3)

-- the hits of two parts
pub hits-append : (conditions : List Clause) (es : List Event) (from : ℕ) (s : State) (low mid high : ℕ) (xs ys : List Hit) → low ≤ mid → mid ≤ high → AreHits conditions es from s low mid xs → AreHits conditions es from s mid high ys → AreHits conditions es from s low high (xs ++ ys)
hits-append conditions es from s low mid high [] ys more later first second = hits-before conditions es from s low mid high ys more first second
hits-append conditions es from s low mid high (hit ∷ rest) ys more later first second = (
  first.0,
  record { reached = first.1.reached; inside = omega (arith, first.1.inside, later); met = first.1.met },
  first.2,
  hits-append conditions es from s (hit.count + 1) mid high rest ys (omega (arith, first.1.inside)) later first.3 second,
)

-- what a run that goes on meets, the whole meets there
pub hits-from : (conditions : List Clause) (es : List Event) (from at : ℕ) (s t : State) (low high : ℕ) (hits : List Hit) → from ≤ at → at ≤ low → t ≡ run_of es from (at - from) s → AreHits conditions es at t low high hits → AreHits conditions es from s low high hits
hits-from conditions es from at s t low high [] reached later is hits = none-within conditions es from at low high s t reached later is hits
hits-from conditions es from at s t low high (hit ∷ rest) reached later is hits = (
  hits.0,
  hit-from conditions es from at high s t hit reached is hits.1,
  none-within conditions es from at low hit.count s t reached later is hits.2,
  hits-from conditions es from at s t (hit.count + 1) high rest reached (omega (arith, later, hits.0)) is hits.3,
)

-- the first hit after some
pub hits-more : (conditions : List Clause) (es : List Event) (from at to : ℕ) (s t : State) (xs : List Hit) (hit : Hit) → from ≤ at → t ≡ run_of es from (at - from) s → AreHits conditions es from s from at xs → IsHit conditions es at to t hit → NoneIn conditions es at t at hit.count
    → AreHits conditions es from s from (hit.count + 1) (xs ++ hit ∷ [])
hits-more conditions es from at to s t xs hit reached is before found none =
    let here = hit-from conditions es from at to s t hit reached is found in
    let last : AreHits conditions es from s at (hit.count + 1) (hit ∷ []) = (
      found.reached,
      record { reached = here.reached; inside = omega arith; met = here.met },
      none-within conditions es from at at hit.count s t reached (omega arith) is none,
      λ n after inside. absurd (omega (arith, after, inside)),
    ) in
    hits-append conditions es from s from at (hit.count + 1) xs (hit ∷ []) reached (omega (arith, found.reached)) before last

-- and no hit after them
pub hits-end : (conditions : List Clause) (es : List Event) (from at to : ℕ) (s t : State) (xs : List Hit) → from ≤ at → at ≤ to → t ≡ run_of es from (at - from) s → AreHits conditions es from s from at xs → NoneIn conditions es at t at to → AreHits conditions es from s from to xs
hits-end conditions es from at to s t xs reached more is before none =
    subst (λ (hits : List Hit). AreHits conditions es from s from to hits) (append-nil xs)
    (hits-append conditions es from s from at to xs [] reached more before (none-within conditions es from at at to s t reached (omega arith) is none))

-- the last of a list
pub ends-more : (xs : List Hit) (hit : Hit) → EndsAt (xs ++ hit ∷ []) (hit.count + 1)
ends-more [] hit = refl
ends-more (x ∷ []) hit = refl
ends-more (x ∷ y ∷ rest) hit = ends-more (y ∷ rest) hit

-- ---- there is one list

-- the first count of a range at which one holds
same-count : (conditions : List Clause) (es : List Event) (from low high : ℕ) (s : State) (x y : Hit) → low ≤ x.count → low ≤ y.count → IsHit conditions es from high s x → IsHit conditions es from high s y
    → NoneIn conditions es from s low x.count → NoneIn conditions es from s low y.count → x.count ≡ y.count
same-count conditions es from low high s x y after later first second before none = elim (cases_lt x.count y.count) [
  | inl less ↦ absurd (none x.count after less x.condition first.met.holds)
  | inr more ↦ elim (cases_lt y.count x.count) [
    | inl less ↦ absurd (before y.count later less y.condition second.met.holds)
    | inr most ↦ omega (arith, more, most)
  ]
]

-- and the condition
same-condition : (conditions : List Clause) (es : List Event) (from : ℕ) (s : State) (n index other : ℕ) → IsMet conditions es (step_at es from s n) index → IsMet conditions es (step_at es from s n) other → index ≡ other
same-condition conditions es from s n index other first second = elim (cases_lt index other) [
  | inl less ↦ absurd (second.least index less first.holds)
  | inr more ↦ elim (cases_lt other index) [
    | inl less ↦ absurd (first.least other less second.holds)
    | inr most ↦ omega (arith, more, most)
  ]
]

same-hit : (x y : Hit) → x.count ≡ y.count → x.condition ≡ y.condition → x ≡ y
same-hit x y count condition = λ i. record { count = count i; condition = condition i }

pub hits-same : (conditions : List Clause) (es : List Event) (from low high : ℕ) (s : State) (xs ys : List Hit) → AreHits conditions es from s low high xs → AreHits conditions es from s low high ys → xs ≡ ys
hits-same conditions es from low high s [] [] first second = refl
hits-same conditions es from low high s [] (y ∷ rest) first second = absurd (first y.count second.0 second.1.inside y.condition second.1.met.holds)
hits-same conditions es from low high s (x ∷ rest) [] first second = absurd (second x.count first.0 first.1.inside x.condition first.1.met.holds)
hits-same conditions es from low high s (x ∷ xs) (y ∷ ys) first second =
    let count = same-count conditions es from low high s x y first.0 second.0 first.1 second.1 first.2 second.2 in
    let there = subst (λ (n : ℕ). IsMet conditions es (step_at es from s n) y.condition) (sym count) second.1.met in
    let condition = same-condition conditions es from s x.count x.condition y.condition first.1.met there in
    let later = subst (λ (n : ℕ). AreHits conditions es from s (n + 1) high ys) (sym count) second.3 in
    ap (λ (hit : Hit). hit ∷ xs) (same-hit x y count condition) ∙ ap (λ (hits : List Hit). y ∷ hits) (hits-same conditions es from (x.count + 1) high s xs ys first.3 later)
