-- Events in order, and later ones in order after them.
use Rattle.std.proofs.Common.{◌≡◌, ◌∙◌, ◌<◌, ◌≤◌, ◌+◌, ◌-◌, ◌++◌, ℕ, zero, suc, inl, inr, List, [], ◌∷◌, ap, arith, get_or, length, length-append, map, subst, sym}
use Rattle.std.proofs.lemmas.Bool.{cases_lt}
use Rattle.std.proofs.lemmas.List.{get_or-append_right, get_or_append_left, length-map, map-append}
use Rattle.std.specs.List.{All}
use Rattle.risc_model.proofs.OrderLemmas.{count_at-is, count_before-next, counts-order}
use Rattle.risc_model.specs.InputOrder.{AreOrdered, IsRightIndex, count_at, count_before}
use Rattle.risc_model.specs.declared.event.Event.{Event}
use Rattle.risc_model.specs.declared.inputs.TheConstants.{MAX_COUNT}

-- what holds of the count of each event holds of the count at each index
pub each-count : (Q : ℕ → Type 0) (es : List Event) (i : ℕ) → i < length es → All (λ (e : Event). Q e.count) es → Q (count_at es i)
each-count Q [] i lt each = absurd (omega (arith, lt))
each-count Q (e ∷ es) i lt each = subst Q (sym (count_at-is (e ∷ es) i e lt)) (each i e lt)

right-index : (es : List Event) (index : ℕ) → count_at es index ≤ MAX_COUNT → ((p : ℕ) → p + 1 ≡ index → count_at es p ≤ count_at es index) → IsRightIndex es index
right-index es zero bound step = (omega arith, bound)
right-index es (suc p) bound step =
    let next : p + 1 ≡ suc p = omega arith in
    let before : count_before es (suc p) ≡ count_at es p = subst (λ (k : ℕ). count_before es k ≡ count_at es p) next (count_before-next es p) in
    (rw before (step p next), bound)

module _ (xs ys : List Event) where
  abbrev count : Event → ℕ
  count e = e.count

  -- the counts of the first, and of the others after them
  pub left : (i : ℕ) → i < length xs → count_at (xs ++ ys) i ≡ count_at xs i
  left i lt =
      ap (λ (ns : List ℕ). get_or ns i 0) (map-append count xs ys)
      ∙ get_or_append_left (map count xs) (map count ys) 0 i (omega (arith, lt, length-map xs count))

  right : (i : ℕ) → length xs ≤ i → count_at (xs ++ ys) i ≡ count_at ys (i - length xs)
  right i le =
      ap (λ (ns : List ℕ). get_or ns i 0) (map-append count xs ys)
      ∙ get_or-append_right (map count xs) (map count ys) (length xs) i 0 (length-map xs count) le

  -- both are in order together if the first come before a count, and the others at it or later
  pub ordered-append : (m : ℕ) → AreOrdered xs → AreOrdered ys → ((i : ℕ) → i < length xs → count_at xs i < m) → ((i : ℕ) → i < length ys → m ≤ count_at ys i)
      → AreOrdered (xs ++ ys)
  ordered-append m ordered_xs ordered_ys before after index inside =
      let long = length-append xs ys in
      elim (cases_lt index (length xs)) [
        | inl less ↦
            let at = left index less in
            right-index (xs ++ ys) index (rw at (ordered_xs index less).1)
            (λ p next. rw (at, left p (omega (arith, less, next))) (counts-order xs ordered_xs p index (omega (arith, next)) less))
        | inr more ↦
            let at = right index (omega (arith, more)) in
            let in_ys : index - length xs < length ys = omega (arith, long, inside, more) in
            right-index (xs ++ ys) index (rw at (ordered_ys (index - length xs) in_ys).1)
            (λ p next.
            elim (cases_lt p (length xs)) [
              | inl less ↦
                  let low = before p less in
                  let high = after (index - length xs) in_ys in
                  rw (at, left p less) (omega (arith, low, high))
              | inr later ↦
                  rw (at, right p (omega (arith, later)))
                  (counts-order ys ordered_ys (p - length xs) (index - length xs) (omega (arith, next)) in_ys)
            ])
      ]

  pub behind : (i : ℕ) → i < length ys → count_at (xs ++ ys) (length xs + i) ≡ count_at ys i
  behind i lt =
      let same : length xs + i - length xs ≡ i = omega arith in
      right (length xs + i) (omega arith) ∙ ap (λ (k : ℕ). count_at ys k) same

  -- the last of events in order are in order
  pub ordered-right : AreOrdered (xs ++ ys) → AreOrdered ys
  ordered-right ordered i inside =
      let long = length-append xs ys in
      let at = behind i inside in
      let within : length xs + i < length (xs ++ ys) = omega (arith, long, inside) in
      right-index ys i (rw at at (ordered (length xs + i) within).1)
      (λ p next.
      let here = behind p (omega (arith, inside, next)) in
      let rise = counts-order (xs ++ ys) ordered (length xs + p) (length xs + i) (omega (arith, next)) within in
      omega (arith, here, at, rise))
