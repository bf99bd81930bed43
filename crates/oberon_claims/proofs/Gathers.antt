-- What the book's own seat knows once it has joined the seats of all passes.
use Rattle.std.proofs.Common.{◌≡◌, ℕ, zero, suc, ◌+◌, ◌<◌, ◌≤◌, List, [], ◌∷◌, ◌++◌, length, get_or, min, Bool, true, false, sym, refl, ap, ◌∙◌, subst, arith, ⊎_elim, length-append, append_assoc, append-nil, eqb, Option, None, Some, cond}
use Rattle.std.specs.Prelude.{All, Contains, MatchOption, HoldsAt}
use Rattle.oberon_claims.specs.declared.book.View.{View}
use Rattle.oberon_claims.specs.Counts.{times, once_below}
use Rattle.oberon_claims.specs.Pass.{BookId, PassRecord}
use Rattle.oberon_claims.specs.Ledger.{all_taken, all_reported, all_shown, SomeEnded, IsLeastOf, IsNotBelow}
use Rattle.oberon_claims.specs.inner.Book.{nothing, times_reported, IsLegal}
use Rattle.oberon_claims.specs.inner.Steps.{joined_view}
use Rattle.oberon_claims.proofs.Counting.{number_of_each_once}
use Rattle.oberon_claims.proofs.Sums.{times_cons, times_here, one_is, empty_if}

-- how many passes were answered `None`
abbrev pub marks : List PassRecord → ℕ
marks [] = 0
marks (p ∷ ps) = cond p.ended 1 0 + marks ps

-- the view of the book's own seat after it joined the seats of these passes
abbrev pub gathered : BookId → List PassRecord → View
gathered book ps = record { jobs = book.jobs; workers = book.workers; taken = all_taken ps; reported = all_reported ps; shown = all_shown ps; ends = marks ps; passes = length ps }

taken_snoc : (ps : List PassRecord) (p : PassRecord) → all_taken ps ++ p.taken ≡ all_taken (ps ++ p ∷ [])
taken_snoc [] p = sym (append-nil p.taken)
taken_snoc (q ∷ ps) p = append_assoc q.taken (all_taken ps) p.taken ∙ ap (λ (l : List ℕ). q.taken ++ l) (taken_snoc ps p)

reported_snoc : (ps : List PassRecord) (p : PassRecord) → all_reported ps ++ p.reported ≡ all_reported (ps ++ p ∷ [])
reported_snoc [] p = sym (append-nil p.reported)
reported_snoc (q ∷ ps) p = append_assoc q.reported (all_reported ps) p.reported ∙ ap (λ (l : List ℕ). q.reported ++ l) (reported_snoc ps p)

shown_snoc : (ps : List PassRecord) (p : PassRecord) → all_shown ps ++ p.shown ≡ all_shown (ps ++ p ∷ [])
shown_snoc [] p = sym (append-nil p.shown)
shown_snoc (q ∷ ps) p = append_assoc q.shown (all_shown ps) p.shown ∙ ap (λ (l : List ℕ). q.shown ++ l) (shown_snoc ps p)

marks_snoc : (ps : List PassRecord) (p : PassRecord) → marks ps + cond p.ended 1 0 ≡ marks (ps ++ p ∷ [])
marks_snoc [] p = omega arith
marks_snoc (q ∷ ps) p = let e = marks_snoc ps p in omega arith

-- v is the view of the pass's seat
pub record IsSeatOf (v : View) (p : PassRecord) : Type 0 where
  pub taken : v.taken ≡ p.taken
  pub reported : v.reported ≡ p.reported
  pub shown : v.shown ≡ p.shown
  pub ends : v.ends ≡ cond p.ended 1 0
  pub passes : v.passes ≡ 1

pub gathered_snoc : (book : BookId) (ps : List PassRecord) (p : PassRecord) (v : View) → IsSeatOf v p → joined_view (gathered book ps) v ≡ gathered book (ps ++ p ∷ [])
gathered_snoc book ps p v is =
    let taken = ap (λ (l : List ℕ). all_taken ps ++ l) is.taken ∙ taken_snoc ps p in
    let reported = ap (λ (l : List ℕ). all_reported ps ++ l) is.reported ∙ reported_snoc ps p in
    let shown = ap (λ (l : List ℕ). all_shown ps ++ l) is.shown ∙ shown_snoc ps p in
    let ends = ap (λ (n : ℕ). marks ps + n) is.ends ∙ marks_snoc ps p in
    let passes : length ps + v.passes ≡ length (ps ++ p ∷ []) = let e = is.passes in let l = length-append ps (p ∷ []) in omega arith in
    λ i. record { jobs = book.jobs; workers = book.workers; taken = taken i; reported = reported i; shown = shown i; ends = ends i; passes = passes i }

-- what is true of each element of a list is true of the next one
module _ {A : Type 0} where
  at_next : (P : A → Type 0) (ys : List A) (p : A) (rest : List A) → All P (ys ++ p ∷ rest) → P p
  at_next P [] p rest holds = holds 0 p (omega arith)
  at_next P (y ∷ ys) p rest holds = at_next P ys p rest (λ k d in_range. holds (suc k) d (omega arith))

  pub next_of : (P : A → Type 0) (all ys : List A) (p : A) (rest : List A) → ys ++ p ∷ rest ≡ all → All P all → P p
  next_of P all ys p rest is holds = at_next P ys p rest (subst (λ (l : List A). (i : ℕ) (e : A) → i < length l → P (get_or l i e)) (sym is) holds)

marks_at : (ps : List PassRecord) (k : ℕ) → k < length ps → HoldsAt (λ (q : PassRecord). q.ended ≡ true) ps k → 0 < marks ps
marks_at [] k in_range holds = absurd (omega arith)
marks_at (p ∷ ps) zero in_range holds = let e : cond {A = ℕ} p.ended 1 0 ≡ 1 = ap (λ (b : Bool). cond b 1 0) (holds p) in omega arith
marks_at (p ∷ ps) (suc k) in_range holds = let r = marks_at ps k (omega arith) holds in omega arith

some_marks : (ps : List PassRecord) → SomeEnded ps → 0 < marks ps
some_marks ps m = marks_at ps m.0 m.1 m.2

-- a number that occurs in a list is at some index of it
pub found : (x : ℕ) (xs : List ℕ) → 0 < times x xs → Contains xs x
found x [] there = absurd (omega arith)
found x (y ∷ ys) there = go x y ys (eqb y x) refl (let f = times_cons x y ys in omega arith) (λ t. found x ys t)
  where
    go : (x y : ℕ) (ys : List ℕ) (b : Bool) → eqb y x ≡ b → 0 < cond (eqb y x) 1 0 + times x ys → (0 < times x ys → Contains ys x) → Contains (y ∷ ys) x
    go x y ys true e there next = (0, omega arith, one_is y x (let o : cond {A = ℕ} (eqb y x) 1 0 ≡ 1 = ap (λ (b : Bool). cond b 1 0) e in omega arith))
    go x y ys false e there next =
        let o : cond {A = ℕ} (eqb y x) 1 0 ≡ 0 = ap (λ (b : Bool). cond b 1 0) e in
        let r = next (omega arith) in
        (suc r.0, (let h = r.1 in omega arith), r.2)

-- what a legal book whose only seat has joined all passes says of their lists
module _ (book : BookId) (jobs next least : ℕ) (ps : List PassRecord) (legal : IsLegal jobs (length ps) next least (gathered book ps ∷ [])) where
  pub taken_once : (x : ℕ) → times x (all_taken ps) ≡ once_below x (min next jobs)
  taken_once x = (let n : times x (all_taken ps) ≡ times x (all_taken ps) + 0 = omega arith in n) ∙ legal.each_once x

  pub all_jobs_taken : SomeEnded ps → min next jobs ≡ jobs
  all_jobs_taken m = let s = some_marks ps m in let c : length (all_taken ps) + 0 ≡ min next jobs = number_of_each_once (min next jobs) (gathered book ps ∷ []) legal.each_once in let n = legal.next_is in omega arith

  pub none_reported : nothing ≤ least → all_reported ps ≡ []
  none_reported none = empty_if (all_reported ps) (λ x there. let t = legal.reported_above x (omega arith) in omega arith)

  pub least_is_reported : least < nothing → Contains (all_reported ps) least
  least_is_reported some_reported = found least (all_reported ps) (⊎_elim (λ (e : least ≡ nothing). absurd (omega arith)) (λ (t : 0 < times_reported least (gathered book ps ∷ [])). omega arith) legal.least_reported)

  pub reported_all_above : All (λ y. least ≤ y) (all_reported ps)
  reported_all_above k d in_range =
      let x = get_or (all_reported ps) k d in
      let here = times_here (all_reported ps) k d in_range in
      (legal.reported_above x (omega arith)).0

  pub shown_all_reported : All (λ x. Contains (all_reported ps) x) (all_shown ps)
  shown_all_reported k d in_range =
      let x = get_or (all_shown ps) k d in
      let here = times_here (all_shown ps) k d in_range in
      let t = legal.shown_reported x (omega arith) in
      found x (all_reported ps) (omega arith)

  pub least_reported_is : (o : Option ℕ) → MatchOption o (nothing ≤ least) (λ x. (x ≡ least) × (least < nothing))
      → MatchOption o (all_reported ps ≡ []) (λ x. Contains (all_reported ps) x × All (λ y. x ≤ y) (all_reported ps))
  least_reported_is None none = none_reported none
  least_reported_is (Some x) is = subst (λ (y : ℕ). Contains (all_reported ps) y × All (λ z. y ≤ z) (all_reported ps)) (sym is.0) (least_is_reported is.1, reported_all_above)

-- no value shown is below the least segment reported
pub shown_not_below : (reported shown : List ℕ) (o : Option ℕ) → IsLeastOf reported o → All (λ x. Contains reported x) shown → IsNotBelow o shown
shown_not_below reported shown None none all = empty_if_none shown (λ k d in_range. let c = all k d in_range in let e = ap length none in let h = c.1 in absurd (omega arith))
  where
    empty_if_none : (xs : List ℕ) → ((k d : ℕ) → k < length xs → ⊥) → xs ≡ []
    empty_if_none [] none = refl
    empty_if_none (x ∷ xs) none = absurd (none 0 x (omega arith))
shown_not_below reported shown (Some x) is all = λ k d in_range. (let c = all k d in_range in subst (λ (y : ℕ). x ≤ y) (c.2) (is.1 c.0 (get_or shown k d) c.1))

-- lists of one view are equal only if the views are
pub first_of : {v w : View} → v ∷ [] ≡ w ∷ [] → v ≡ w
first_of {v} {w} e = λ i. head w (e i)
  where
    head : View → List View → View
    head d [] = d
    head d (x ∷ xs) = x
