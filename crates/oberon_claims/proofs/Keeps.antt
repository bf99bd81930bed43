-- Each step keeps the book legal.
use Rattle.std.proofs.Common.{◌≡◌, ◌⊎◌, ℕ, ◌+◌, ◌<◌, ◌≤◌, List, [], ◌∷◌, length, set, get_or, min, inl, inr, sym, refl, ap, ◌∙◌, subst, arith, eqb, ⊎_elim, length-append, cond}
use Rattle.std.specs.Prelude.{slice_index}
use mathlib.Core.Logic.{dite}
use native.Mathlib.Decide.{dec_le}
use mathlib.Core.Option.{some}
use lib.ListN.{get_elem?}
use Rattle.oberon_claims.specs.declared.book.View.{View}
use Rattle.oberon_claims.specs.Counts.{times, once_below}
use Rattle.oberon_claims.specs.inner.Book.{total, nothing, times_reported, times_shown, number_taken, IsSeat, IsLegal}
use Rattle.oberon_claims.specs.inner.Steps.{view_with_job, view_with_end, view_with_reported, view_with_shown}
use Rattle.oberon_claims.proofs.Counting.{number_of_each_once}
use Rattle.oberon_claims.proofs.Sums.{each_set, total_set, total_has, total_le, times_append, times_here, once_more, once_is, one_is, one_same, empty_if}

-- the two words after one of them is set
pub set_next : (words : List ℕ) (n : ℕ) → length words ≡ 2 → (length (set words 0 n) ≡ 2) × (slice_index (set words 0 n) 0 ≡ n) × (slice_index (set words 0 n) 1 ≡ slice_index words 1)
set_next [] n two = absurd (omega arith)
set_next (a ∷ ws) n two = (two, refl, refl)

pub set_least : (words : List ℕ) (n : ℕ) → length words ≡ 2 → (length (set words 1 n) ≡ 2) × (slice_index (set words 1 n) 0 ≡ slice_index words 0) × (slice_index (set words 1 n) 1 ≡ n)
set_least [] n two = absurd (omega arith)
set_least (a ∷ []) n two = absurd (omega arith)
set_least (a ∷ b ∷ ws) n two = (two, refl, refl)

module _ (jobs workers next least : ℕ) (views : List View) (id : ℕ) (v : View) (at : get_elem? views id ≡ some v) (legal : IsLegal jobs workers next least views) where
  pub mine : IsSeat v
  mine = legal.seats id v at

  -- `next` is far from wrapping
  pub next_small : next ≤ 4160
  next_small =
      let ends = total_le (λ u. u.ends) (λ u. u.passes) views (λ j u there. (legal.seats j u there).ends_within) in
      let a = legal.few_jobs in let b = legal.few_workers in let c = number_of_each_once _ _ legal.each_once in let d = legal.next_is in let e = legal.passes_are in
      omega arith

  -- each job that the seat took is below `next`
  pub taken_below : (k d : ℕ) → k < length v.taken → get_or v.taken k d < next
  taken_below k d in_range =
      let x = get_or v.taken k d in
      let here = times_here v.taken k d in_range in
      let has = total_has (λ u. times x u.taken) views id v at in
      let e = legal.each_once x in
      let below = once_is x (min next jobs) (omega arith) in
      omega arith

  pub take_job : next < jobs → 0 < v.passes → IsLegal jobs workers (next + 1) least (set views id (view_with_job v next))
  take_job free active =
      let w = view_with_job v next in
      let same : (f : View → ℕ) → f w ≡ f v → total f (set views id w) ≡ total f views = λ f e. (let s = total_set f views id v w at in omega arith) in
      let count : number_taken (set views id w) ≡ number_taken views + 1 =
      let s = total_set (λ u. length u.taken) views id v w at in let l = length-append v.taken (next ∷ []) in omega arith in
      record {
        few_jobs = legal.few_jobs;
        few_workers = legal.few_workers;
        seats = each_set IsSeat views id w legal.seats record {
          ends_within = mine.ends_within;
          idle_taken = λ none. absurd (omega arith);
          idle_reported = mine.idle_reported;
          idle_shown = mine.idle_shown;
        };
        each_once = λ x.
            let s = total_set (λ u. times x u.taken) views id v w at in
            let a = times_append x v.taken (next ∷ []) in
            let e = legal.each_once x in
            let m : min next jobs ≡ next = omega arith in
            let m' : min (next + 1) jobs ≡ next + 1 = omega arith in
            let o = once_more x next in
            let e' = ap (once_below x) m in
            let o' = ap (once_below x) m' in
            omega arith;
        next_is = let n = legal.next_is in let e = same (λ u. u.ends) refl in omega arith;
        passes_are = same (λ u. u.passes) refl ∙ legal.passes_are;
        reported_above = λ x there. legal.reported_above x (subst (λ (n : ℕ). 0 < n) (same (λ u. times x u.reported) refl) there);
        least_reported = ⊎_elim inl (λ (t : 0 < times_reported least views). inr (subst (λ (n : ℕ). 0 < n) (sym (same (λ u. times least u.reported) refl)) t)) legal.least_reported;
        shown_reported = λ x there. subst (λ (n : ℕ). 0 < n) (sym (same (λ u. times x u.reported) refl)) (legal.shown_reported x (subst (λ (n : ℕ). 0 < n) (same (λ u. times x u.shown) refl) there));
      }

  pub take_end : jobs ≤ next → v.ends ≡ 0 → 0 < v.passes → IsLegal jobs workers (next + 1) least (set views id (view_with_end v))
  take_end past unmarked active =
      let w = view_with_end v in
      let same : (f : View → ℕ) → f w ≡ f v → total f (set views id w) ≡ total f views = λ f e. (let s = total_set f views id v w at in omega arith) in
      let m : min (next + 1) jobs ≡ min next jobs = omega arith in
      record {
        few_jobs = legal.few_jobs;
        few_workers = legal.few_workers;
        seats = each_set IsSeat views id w legal.seats record {
          ends_within = omega arith;
          idle_taken = mine.idle_taken;
          idle_reported = mine.idle_reported;
          idle_shown = mine.idle_shown;
        };
        each_once = λ x. same (λ u. times x u.taken) refl ∙ legal.each_once x ∙ ap (once_below x) (sym m);
        next_is = let n = legal.next_is in let c = same (λ u. length u.taken) refl in let s = total_set (λ u. u.ends) views id v w at in omega arith;
        passes_are = same (λ u. u.passes) refl ∙ legal.passes_are;
        reported_above = λ x there. legal.reported_above x (subst (λ (n : ℕ). 0 < n) (same (λ u. times x u.reported) refl) there);
        least_reported = ⊎_elim inl (λ (t : 0 < times_reported least views). inr (subst (λ (n : ℕ). 0 < n) (sym (same (λ u. times least u.reported) refl)) t)) legal.least_reported;
        shown_reported = λ x there. subst (λ (n : ℕ). 0 < n) (sym (same (λ u. times x u.reported) refl)) (legal.shown_reported x (subst (λ (n : ℕ). 0 < n) (same (λ u. times x u.shown) refl) there));
      }

  -- each segment that the seat reported or was shown is at least `least`, since it was reported
  pub reported_least : (k d : ℕ) → k < length v.reported → least ≤ get_or v.reported k d
  reported_least k d in_range =
      let x = get_or v.reported k d in
      let here = times_here v.reported k d in_range in
      let has = total_has (λ u. times x u.reported) views id v at in
      (legal.reported_above x (omega arith)).0

  pub shown_least : (k d : ℕ) → k < length v.shown → least ≤ get_or v.shown k d
  shown_least k d in_range =
      let x = get_or v.shown k d in
      let here = times_here v.shown k d in_range in
      let has = total_has (λ u. times x u.shown) views id v at in
      (legal.reported_above x (legal.shown_reported x (omega arith))).0

  -- while no segment is reported, the seat has reported nothing and was shown nothing
  pub reported_none : nothing ≤ least → v.reported ≡ []
  reported_none none = empty_if v.reported (λ x there. let has = total_has (λ u. times x u.reported) views id v at in let t = legal.reported_above x (omega arith) in omega arith)

  pub shown_none : nothing ≤ least → v.shown ≡ []
  shown_none none = empty_if v.shown (λ x there. let has = total_has (λ u. times x u.shown) views id v at in let t = legal.reported_above x (legal.shown_reported x (omega arith)) in omega arith)

  pub show_least : least < nothing → 0 < v.passes → IsLegal jobs workers next least (set views id (view_with_shown v least))
  show_least some_reported active =
      let w = view_with_shown v least in
      let same : (f : View → ℕ) → f w ≡ f v → total f (set views id w) ≡ total f views = λ f e. (let s = total_set f views id v w at in omega arith) in
      let reported : 0 < times_reported least views = ⊎_elim (λ (e : least ≡ nothing). absurd (omega arith)) (λ (t : 0 < times_reported least views). t) legal.least_reported in
      record {
        few_jobs = legal.few_jobs;
        few_workers = legal.few_workers;
        seats = each_set IsSeat views id w legal.seats record {
          ends_within = mine.ends_within;
          idle_taken = mine.idle_taken;
          idle_reported = mine.idle_reported;
          idle_shown = λ none. absurd (omega arith);
        };
        each_once = λ x. same (λ u. times x u.taken) refl ∙ legal.each_once x;
        next_is = let n = legal.next_is in let c = same (λ u. length u.taken) refl in let e = same (λ u. u.ends) refl in omega arith;
        passes_are = same (λ u. u.passes) refl ∙ legal.passes_are;
        reported_above = λ x there. legal.reported_above x (subst (λ (n : ℕ). 0 < n) (same (λ u. times x u.reported) refl) there);
        least_reported = inr (subst (λ (n : ℕ). 0 < n) (sym (same (λ u. times least u.reported) refl)) reported);
        shown_reported = λ x there. subst (λ (n : ℕ). 0 < n) (sym (same (λ u. times x u.reported) refl))
            (let s = total_set (λ u. times x u.shown) views id v w at in
            let a = times_append x v.shown (least ∷ []) in
            dite (dec_le 1 (times_shown x views))
            (λ (old : 1 ≤ times_shown x views). legal.shown_reported x (omega arith))
            (λ new. subst (λ (y : ℕ). 0 < times_reported y views) (one_is least x (omega arith)) reported));
      }

  pub report : (x : ℕ) → x < nothing → 0 < v.passes → IsLegal jobs workers next (min least x) (set views id (view_with_reported v x))
  report x small active =
      let w = view_with_reported v x in
      let same : (f : View → ℕ) → f w ≡ f v → total f (set views id w) ≡ total f views = λ f e. (let s = total_set f views id v w at in omega arith) in
      let more : (y : ℕ) → times_reported y (set views id w) ≡ times_reported y views + cond (eqb x y) 1 0 =
      λ y. (let s = total_set (λ u. times y u.reported) views id v w at in let a = times_append y v.reported (x ∷ []) in omega arith) in
      record {
        few_jobs = legal.few_jobs;
        few_workers = legal.few_workers;
        seats = each_set IsSeat views id w legal.seats record {
          ends_within = mine.ends_within;
          idle_taken = mine.idle_taken;
          idle_reported = λ none. absurd (omega arith);
          idle_shown = mine.idle_shown;
        };
        each_once = λ y. same (λ u. times y u.taken) refl ∙ legal.each_once y;
        next_is = let n = legal.next_is in let c = same (λ u. length u.taken) refl in let e = same (λ u. u.ends) refl in omega arith;
        passes_are = same (λ u. u.passes) refl ∙ legal.passes_are;
        reported_above = λ y there.
            let m = more y in
            dite (dec_le 1 (times_reported y views))
            (λ (old : 1 ≤ times_reported y views). let t = legal.reported_above y (omega arith) in (omega arith, t.1))
            (λ new. let e = one_is x y (omega arith) in (omega arith, omega arith));
        least_reported =
            dite (dec_le least x)
            (λ (le : least ≤ x).
            let m : least ≡ min least x = omega arith in
            subst (λ (n : ℕ). (n ≡ nothing) ⊎ (0 < times_reported n (set views id w))) m
            (⊎_elim inl (λ (t : 0 < times_reported least views). let r = more least in inr (omega arith)) legal.least_reported))
            (λ gt.
            let m : x ≡ min least x = omega arith in
            subst (λ (n : ℕ). (n ≡ nothing) ⊎ (0 < times_reported n (set views id w))) m
            (let r = more x in let o = one_same x x refl in inr (omega arith)));
        shown_reported = λ y there.
            let r = more y in
            let t = legal.shown_reported y (subst (λ (n : ℕ). 0 < n) (same (λ u. times y u.shown) refl) there) in
            omega arith;
      }
