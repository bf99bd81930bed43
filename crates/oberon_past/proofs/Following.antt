-- Inputs that follow others, tested one after another.
use Rattle.std.proofs.Common.{◌≡◌, ◌∙◌, ◌+◌, ◌-◌, ◌<◌, ◌≤◌, ℕ, zero, suc, inl, inr, List, [], ◌∷◌, ◌++◌, ap, arith, below_more, get_or, length, length-append, max, refl, subst, sym}
use Rattle.std.specs.List.{All}
use Rattle.std.proofs.lemmas.Bool.{cases_lt}
use Rattle.risc_model.specs.declared.event.Event.{Event}
use Rattle.risc_model.specs.InputOrder.{AreOrdered, IsRightIndex, count_at, count_before}
use Rattle.risc_model.specs.declared.inputs.TheConstants.{MAX_COUNT}
use Rattle.risc_model.proofs.OrderLemmas.{count_at-is, count_before-next}
use Rattle.oberon_session.proofs.JoinedOrder.{behind, left}
use Rattle.oberon_past.specs.inner.Following.{FollowUpTo}

module _ (before inputs : List Event) (end : ℕ) where
  module _ (i least : ℕ) (event : Event) (inside : i < length inputs) (at : event ≡ get_or inputs i event) (so_far : FollowUpTo before inputs end i least) where
    here : count_at inputs i ≡ event.count
    here = count_at-is inputs i event inside ∙ sym (ap (λ (e : Event). e.count) at)

    joined : count_at (before ++ inputs) (length before + i) ≡ event.count
    joined = behind before inputs i inside ∙ here

    pub follow-more : least ≤ event.count → event.count ≤ MAX_COUNT → FollowUpTo before inputs end (i + 1) event.count
    follow-more later bounded =
        let least-is = so_far.least_is in
        let right : IsRightIndex (before ++ inputs) (length before + i) = (omega (arith, least-is, later, joined), omega (arith, bounded, joined)) in
        let after : end ≤ count_at inputs i = omega (arith, least-is, later, here) in
        let next : length before + i + 1 ≡ length before + (i + 1) = omega arith in
        let last : count_before (before ++ inputs) (length before + (i + 1)) ≡ count_at (before ++ inputs) (length before + i) =
        subst (λ (n : ℕ). count_before (before ++ inputs) n ≡ count_at (before ++ inputs) (length before + i)) next
        (count_before-next (before ++ inputs) (length before + i)) in
        record {
          right = below_more (λ (k : ℕ). IsRightIndex (before ++ inputs) (length before + k)) i so_far.right right;
          after = below_more (λ (k : ℕ). end ≤ count_at inputs k) i so_far.after after;
          least_is = omega (arith, last, joined, here, after);
        }

    -- an input that follows is not before the least count, and not above the greatest
    pub follow-fits : AreOrdered (before ++ inputs) → All (λ (e : Event). end ≤ e.count) inputs → (least ≤ event.count) × (event.count ≤ MAX_COUNT)
    follow-fits ordered after =
        let right = ordered (length before + i) (omega (arith, inside, length-append before inputs)) in
        let low = after i event inside in
        let same = ap (λ (e : Event). e.count) at in
        (omega (arith, so_far.least_is, right.0, joined, low, same), omega (arith, right.1, joined))

  pub follow-all : (i least : ℕ) → length inputs ≤ i → FollowUpTo before inputs end i least → AreOrdered before
      → AreOrdered (before ++ inputs) × All (λ (e : Event). end ≤ e.count) inputs
  follow-all i least whole so_far ordered = (
    (λ index inside.
        let long = length-append before inputs in
        elim (cases_lt index (length before)) [
          | inl early ↦ early-right index early
          | inr late ↦
              let same : length before + (index - length before) ≡ index = omega (arith, late) in
              subst (λ (n : ℕ). IsRightIndex (before ++ inputs) n) same (so_far.right (index - length before) (omega (arith, late, inside, long, whole)))
        ]),
    (λ k d lt. let same = count_at-is inputs k d lt in let after = so_far.after k (omega (arith, lt, whole)) in omega (arith, same, after)),
  )
    where
      early-right : (index : ℕ) → index < length before → IsRightIndex (before ++ inputs) index
      early-right zero early =
          let right = ordered 0 early in
          let same = left before inputs 0 early in
          (omega arith, omega (arith, right.1, same))
      early-right (suc p) early =
          let next : p + 1 ≡ suc p = omega arith in
          let right = ordered (suc p) early in
          let here = left before inputs (suc p) early in
          let there = left before inputs p (omega (arith, early)) in
          let one = subst (λ (k : ℕ). count_before before k ≡ count_at before p) next (count_before-next before p) in
          let both = subst (λ (k : ℕ). count_before (before ++ inputs) k ≡ count_at (before ++ inputs) p) next (count_before-next (before ++ inputs) p) in
          (omega (arith, right.0, one, both, here, there), omega (arith, right.1, here))
