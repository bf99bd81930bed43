-- A split and a join of seats leave each sum as it is, and so keep the book legal.
use Rattle.std.proofs.Common.{◌≡◌, ◌≢◌, ℕ, zero, suc, ◌+◌, ◌-◌, ◌<◌, ◌≤◌, List, [], ◌∷◌, ◌++◌, length, set, min, inl, inr, sym, refl, ap, ◌∙◌, subst, arith, ⊎_elim, length-append}
use Rattle.std.specs.Prelude.{slice_index}
use mathlib.Core.Option.{some, some-injective, some-ne-none}
use lib.ListN.{get_elem?}
use Rattle.atomic_table.specs.Table.{State, Splits, Joins, opening}
use Rattle.atomic_table.proofs.Lists.{at_set}
use Rattle.oberon_claims.specs.declared.book.View.{View}
use Rattle.oberon_claims.specs.declared.book.Plan.{Plan}
use Rattle.oberon_claims.specs.declared.claims.TheConstants.{MAX_JOBS, MAX_WORKERS}
use Rattle.oberon_claims.specs.Counts.{times, once_below}
use Rattle.oberon_claims.specs.inner.Book.{total, nothing, times_reported, IsSeat, IsLegal, Kept, own_seat, own_view}
use Rattle.oberon_claims.specs.inner.Steps.{view_with_one_less, fresh_view, joined_view, spent_view}
use Rattle.oberon_claims.proofs.Sums.{Each, each_set, each_snoc, total_set, total_snoc, total_only, times_append, none_below}

-- f is true of each of the six sums of a book
record AreSums (f : (View → ℕ) → Type 0) : Type 0 where
  taken : (x : ℕ) → f (λ v. times x v.taken)
  count : f (λ v. length v.taken)
  ends : f (λ v. v.ends)
  passes : f (λ v. v.passes)
  reported : (x : ℕ) → f (λ v. times x v.reported)
  shown : (x : ℕ) → f (λ v. times x v.shown)

resum : (jobs workers next least : ℕ) (views views' : List View) → AreSums (λ f. total f views' ≡ total f views) → Each IsSeat views'
    → IsLegal jobs workers next least views → IsLegal jobs workers next least views'
resum jobs workers next least views views' same seats legal = record {
  few_jobs = legal.few_jobs;
  few_workers = legal.few_workers;
  seats = seats;
  each_once = λ x. same.taken x ∙ legal.each_once x;
  next_is = let n = legal.next_is in let c = same.count in let e = same.ends in omega arith;
  passes_are = same.passes ∙ legal.passes_are;
  reported_above = λ x there. legal.reported_above x (subst (λ (n : ℕ). 0 < n) (same.reported x) there);
  least_reported = ⊎_elim inl (λ (t : 0 < times_reported least views). inr (subst (λ (n : ℕ). 0 < n) (sym (same.reported least)) t)) legal.least_reported;
  shown_reported = λ x there. subst (λ (n : ℕ). 0 < n) (sym (same.reported x)) (legal.shown_reported x (subst (λ (n : ℕ). 0 < n) (same.shown x) there));
}

-- a new book is legal
pub begins : (plan : Plan) → plan.jobs ≤ MAX_JOBS → plan.workers ≤ MAX_WORKERS → Kept plan (opening (0 ∷ nothing ∷ []) [] (own_seat plan))
begins plan few_jobs few_workers = (
  refl,
  record {
    few_jobs = few_jobs;
    few_workers = few_workers;
    seats = one;
    each_once = λ x. sym (none_below x) ∙ ap (once_below x) (let m : 0 ≡ min 0 plan.jobs = omega arith in m);
    next_is = omega arith;
    passes_are = omega arith;
    reported_above = λ x there. absurd (omega arith);
    least_reported = inl refl;
    shown_reported = λ x there. absurd (omega arith);
  },
)
  where
    one : Each IsSeat (own_seat plan ∷ [])
    one zero v e = subst IsSeat (some-injective _ _ e) record { ends_within = omega arith; idle_taken = λ _. refl; idle_reported = λ _. refl; idle_shown = λ _. refl }
    one (suc id) v e = absurd (some-ne-none v (sym e))

pub may_hand_out : (plan : Plan) (id n : ℕ) → 0 < n → Splits (Kept plan) id (own_view plan n) (view_with_one_less (own_view plan n)) (fresh_view (own_view plan n))
may_hand_out plan id n some_left s book at =
    let v = own_view plan n in
    let l = view_with_one_less v in
    let r = fresh_view v in
    let same : (f : View → ℕ) → f l + f r ≡ f v → total f (set s.views id l ++ r ∷ []) ≡ total f s.views =
    λ f e. (let a = total_set f s.views id v l at in let b = total_snoc f (set s.views id l) r in omega arith) in (
      book.0,
      resum plan.jobs plan.workers (slice_index s.words 0) (slice_index s.words 1) s.views _
          record {
            taken = λ x. same _ refl;
            count = same _ refl;
            ends = same _ refl;
            passes = same _ (omega arith);
            reported = λ x. same _ refl;
            shown = λ x. same _ refl;
          }
          (each_snoc IsSeat (set s.views id l) r
          (each_set IsSeat s.views id l book.1.seats record { ends_within = omega arith; idle_taken = λ _. refl; idle_reported = λ _. refl; idle_shown = λ _. refl })
          record { ends_within = omega arith; idle_taken = λ _. refl; idle_reported = λ _. refl; idle_shown = λ _. refl })
          book.1,
    )

nil_both : (xs ys : List ℕ) → xs ≡ [] → ys ≡ [] → xs ++ ys ≡ []
nil_both xs ys a b = ap (λ (l : List ℕ). l ++ ys) a ∙ b

pub may_take_in : (plan : Plan) (id : ℕ) (v : View) (other : ℕ) (w : View) → Joins (Kept plan) id v other w (joined_view v w) spent_view
may_take_in plan id v other w s book at apart there =
    let b = joined_view v w in
    let was : get_elem? s.views other ≡ some w = ⊎_elim (λ (x : (other ≡ id) × (b ≡ w)). absurd (apart x.0)) (λ (x : (other ≢ id) × (get_elem? s.views other ≡ some w)). x.1) (at_set s.views id other b w there) in
    let one = book.1.seats id v at in
    let two = book.1.seats other w was in
    let same : (f : View → ℕ) → f b ≡ f v + f w → f spent_view ≡ 0 → total f (set (set s.views id b) other spent_view) ≡ total f s.views =
    λ f e e'. (let a = total_set f s.views id v b at in let c = total_set f (set s.views id b) other w spent_view there in omega arith) in (
      book.0,
      resum plan.jobs plan.workers (slice_index s.words 0) (slice_index s.words 1) s.views _
          record {
            taken = λ x. same _ (times_append x v.taken w.taken) refl;
            count = same _ (length-append v.taken w.taken) refl;
            ends = same _ refl refl;
            passes = same _ refl refl;
            reported = λ x. same _ (times_append x v.reported w.reported) refl;
            shown = λ x. same _ (times_append x v.shown w.shown) refl;
          }
          (each_set IsSeat (set s.views id b) other spent_view
          (each_set IsSeat s.views id b book.1.seats
          (let p = one.ends_within in let q = two.ends_within in record {
            ends_within = omega arith;
            idle_taken = λ none. nil_both _ _ (one.idle_taken (omega arith)) (two.idle_taken (omega arith));
            idle_reported = λ none. nil_both _ _ (one.idle_reported (omega arith)) (two.idle_reported (omega arith));
            idle_shown = λ none. nil_both _ _ (one.idle_shown (omega arith)) (two.idle_shown (omega arith));
          }))
          record { ends_within = omega arith; idle_taken = λ _. refl; idle_reported = λ _. refl; idle_shown = λ _. refl })
          book.1,
    )

-- if one seat represents all passes, the book is legal with its view alone
pub alone : (jobs workers next least : ℕ) (views : List View) (id : ℕ) (v : View) → get_elem? views id ≡ some v → v.passes ≡ workers → IsLegal jobs workers next least views
    → IsLegal jobs workers next least (v ∷ [])
alone jobs workers next least views id v at whole legal =
    let same : (f : View → ℕ) → Each (λ u. u.passes ≡ 0 → f u ≡ 0) views → total f (v ∷ []) ≡ total f views =
    λ f idle. (let e = total_only f (λ u. u.passes) views id v at idle (legal.passes_are ∙ sym whole) in omega arith) in
    resum jobs workers next least views (v ∷ [])
    record {
      taken = λ x. same _ (λ j u there none. ap (times x) ((legal.seats j u there).idle_taken none));
      count = same _ (λ j u there none. ap length ((legal.seats j u there).idle_taken none));
      ends = same _ (λ j u there none. (let p = (legal.seats j u there).ends_within in omega arith));
      passes = same _ (λ j u there none. none);
      reported = λ x. same _ (λ j u there none. ap (times x) ((legal.seats j u there).idle_reported none));
      shown = λ x. same _ (λ j u there none. ap (times x) ((legal.seats j u there).idle_shown none));
    }
    (one (legal.seats id v at))
    legal
  where
    one : IsSeat v → Each IsSeat (v ∷ [])
    one is zero u e = subst IsSeat (some-injective _ _ e) is
    one is (suc j) u e = absurd (some-ne-none u (sym e))

-- a split may hand out a pass, if the view equals the own view
pub may_hand_out_as : (key plan : Plan) (id : ℕ) (v : View) (n : ℕ) → key ≡ plan → v ≡ own_view plan n → 0 < n → Splits (Kept key) id v (view_with_one_less v) (fresh_view v)
may_hand_out_as key plan id v n same is some_left =
    subst (λ (k : Plan). Splits (Kept k) id v (view_with_one_less v) (fresh_view v)) (sym same)
    (subst (λ (u : View). Splits (Kept plan) id u (view_with_one_less u) (fresh_view u)) (sym is) (may_hand_out plan id n some_left))

pub less_one : (plan : Plan) (m n : ℕ) → view_with_one_less (own_view plan (m - n)) ≡ own_view plan (m - (n + 1))
less_one plan m n = let e : (m - n) - 1 ≡ m - (n + 1) = omega arith in λ i. own_view plan (e i)

-- a closed table is a legal book of one view, if that seat represents all passes
pub closes : (plan : Plan) (id : ℕ) (v : View) (words : List ℕ) (next least : ℕ) (s : State ℕ View) → Kept plan s → get_elem? s.views id ≡ some v → s.words ≡ words
    → get_elem? words 0 ≡ some next → get_elem? words 1 ≡ some least → v.passes ≡ plan.workers → IsLegal plan.jobs plan.workers next least (v ∷ [])
closes plan id v words next least s book at is zeroth first whole =
    let n : slice_index s.words 0 ≡ next = at_place s.words 0 next (ap (λ (l : List ℕ). get_elem? l 0) is ∙ zeroth) in
    let l : slice_index s.words 1 ≡ least = at_place s.words 1 least (ap (λ (l : List ℕ). get_elem? l 1) is ∙ first) in
    subst (λ (p : ℕ × ℕ). IsLegal plan.jobs plan.workers p.0 p.1 (v ∷ [])) (λ i. (n i, l i))
    (alone plan.jobs plan.workers (slice_index s.words 0) (slice_index s.words 1) s.views id v at whole book.1)
  where
    at_place : (ws : List ℕ) (k n : ℕ) → get_elem? ws k ≡ some n → slice_index ws k ≡ n
    at_place [] k n e = absurd (some-ne-none n (sym e))
    at_place (w ∷ ws) zero n e = some-injective w n e
    at_place (w ∷ ws) (suc k) n e = at_place ws k n e
