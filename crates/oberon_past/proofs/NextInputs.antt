-- Inputs that come next in a past: they are in order, and none is before a least count.
use Rattle.std.proofs.Common.{◌≡◌, ◌∙◌, ◌+◌, ◌<◌, ◌≤◌, ℕ, zero, suc, List, ◌++◌, arith, length, length-append, max, refl, subst, sym}
use Rattle.std.specs.List.{All}
use Rattle.risc_model.specs.declared.event.Event.{Event}
use Rattle.risc_model.specs.InputOrder.{AreOrdered, IsRightIndex, count_at, count_before}
use Rattle.risc_model.proofs.OrderLemmas.{count_at-is, count_before-next, counts-order}
use Rattle.oberon_session.proofs.JoinedOrder.{behind, each-count, left, ordered-right}
use Rattle.oberon_past.proofs.Following.{follow-all}

before-next : (es : List Event) (p : ℕ) → count_before es (suc p) ≡ count_at es p
before-next es p =
    let next : p + 1 ≡ suc p = omega arith in
    subst (λ (k : ℕ). count_before es k ≡ count_at es p) next (count_before-next es p)

module _ (before inputs : List Event) (end least : ℕ) (least_is : least ≡ max end (count_before before (length before))) where
  -- the last count of those that there are is not above that of one that is added
  last : (n : ℕ) → n ≡ length before → AreOrdered (before ++ inputs) → (k : ℕ) → k < length inputs → count_before before n ≤ count_at inputs k
  last zero whole ordered k lt = omega arith
  last (suc p) whole ordered k lt =
      let one = before-next before p in
      let there = left before inputs p (omega (arith, whole)) in
      let here = behind before inputs k lt in
      let rise = counts-order (before ++ inputs) ordered p (length before + k) (omega (arith, whole)) (omega (arith, lt, length-append before inputs)) in
      omega (arith, one, there, here, rise)

  pub next-from : AreOrdered (before ++ inputs) → All (λ (e : Event). end ≤ e.count) inputs → AreOrdered inputs × All (λ (e : Event). least ≤ e.count) inputs
  next-from ordered after = (
    ordered-right before inputs ordered,
    λ k d lt.
        let same = count_at-is inputs k d lt in
        let low = last (length before) refl ordered k lt in
        let late = after k d lt in
        omega (arith, least_is, same, low, late),
  )

  -- the count before those that are added
  same-before : (n : ℕ) → n ≡ length before → count_before (before ++ inputs) n ≡ count_before before n
  same-before zero whole = refl
  same-before (suc p) whole =
      before-next (before ++ inputs) p ∙ left before inputs p (omega (arith, whole)) ∙ sym (before-next before p)

  right-at : AreOrdered inputs → ((k : ℕ) → k < length inputs → least ≤ count_at inputs k) → (k : ℕ) → k < length inputs
      → IsRightIndex (before ++ inputs) (length before + k)
  right-at ordered late zero lt =
      let none : length before ≡ length before + 0 = omega arith in
      let first : count_before (before ++ inputs) (length before + 0) ≡ count_before before (length before) =
      subst (λ (n : ℕ). count_before (before ++ inputs) n ≡ count_before before (length before)) none (same-before (length before) refl) in
      let here = behind before inputs 0 lt in
      let low = late 0 lt in
      let right = ordered 0 lt in
      (omega (arith, first, here, low, least_is), omega (arith, here, right.1))
  right-at ordered late (suc p) lt =
      let next : suc (length before + p) ≡ length before + suc p = omega arith in
      let one : count_before (before ++ inputs) (length before + suc p) ≡ count_at (before ++ inputs) (length before + p) =
      subst (λ (n : ℕ). count_before (before ++ inputs) n ≡ count_at (before ++ inputs) (length before + p)) next (before-next (before ++ inputs) (length before + p)) in
      let here = behind before inputs (suc p) lt in
      let there = behind before inputs p (omega (arith, lt)) in
      let two = before-next inputs p in
      let right = ordered (suc p) lt in
      (omega (arith, one, here, there, two, right.0), omega (arith, here, right.1))

  pub next-to : AreOrdered before → AreOrdered inputs → All (λ (e : Event). least ≤ e.count) inputs
      → AreOrdered (before ++ inputs) × All (λ (e : Event). end ≤ e.count) inputs
  next-to first ordered late =
      let counts : (k : ℕ) → k < length inputs → least ≤ count_at inputs k = λ k lt. each-count (λ (c : ℕ). least ≤ c) inputs k lt late in
      follow-all before inputs end (length inputs) (max end (count_before (before ++ inputs) (length before + length inputs))) (omega arith) (record {
        right = right-at ordered counts;
        after = λ k lt. let low = counts k lt in omega (arith, low, least_is);
        least_is = refl;
      }) first
