-- Inputs in order, index by index, and as counts that never fall.
use Rattle.std.proofs.Common.{◌≡◌, ◌<◌, ◌≤◌, ◌+◌, ℕ, zero, suc, List, [], ◌∷◌, arith, ap, length, map, refl}
use Rattle.std.proofs.lemmas.Bool.Decides.{nat_tests}
use Rattle.std.proofs.lemmas.List.{get_or-map, length-map}
use Rattle.std.specs.List.{All}
use Rattle.risc_model.specs.declared.event.Event.{Event}
use Rattle.risc_model.specs.InputOrder.{AreOrdered, IsFirstWrong, IsRightIndex, count_at, count_before}
use Rattle.risc_model.specs.declared.inputs.TheConstants.{MAX_COUNT}
use Rattle.risc_model.proofs.OrderLemmas.{count_before-next}
use Rattle.oberon_session.specs.Draft.{InputNumbers}
use Rattle.oberon_session.specs.Ranges.{input_counts}
use Rattle.oberon_session.specs.Session.{numbers_of_event}
use Rattle.oberon_session.specs.inner.Tested.{InputFits, NeverFalls}

counts-same : (es : List Event) → input_counts (map numbers_of_event es) ≡ map (λ (e : Event). e.count) es
counts-same [] = refl
counts-same (e ∷ es) = ap (λ (l : List ℕ). e.count ∷ l) (counts-same es)

before-suc : (es : List Event) (k : ℕ) → count_before es (suc k) ≡ count_at es k
before-suc es k = grind (arith, nat_tests)

falls-never : (es : List Event) → AreOrdered es → NeverFalls (map (λ (e : Event). e.count) es)
falls-never es ordered = λ k lt.
    let inside : k + 1 < length es = simp length-map at lt in
    let right = ordered (k + 1) inside in
    rw (count_before-next es k) at right.0

-- the inputs are in order if their counts never fall and none is too high
right-at : (es : List Event) → NeverFalls (map (λ (e : Event). e.count) es) → ((k : ℕ) → k < length es → count_at es k ≤ MAX_COUNT)
    → (slot : ℕ) → slot < length es → IsRightIndex es slot
right-at es falls bounded zero inside = (omega arith, bounded zero inside)
right-at es falls bounded (suc k) inside =
    let more : k + 1 < length (map (λ (e : Event). e.count) es) = simp length-map (omega arith) in
    let step : count_at es k ≤ count_at es (k + 1) = falls k more in
    let next : k + 1 ≡ suc k = omega arith in
    let before : count_at es k ≤ count_at es (suc k) = rw next at step in
    (rw (before-suc es k) before, bounded (suc k) inside)

count-fits : (es : List Event) → All InputFits (map numbers_of_event es) → (k : ℕ) → k < length es → count_at es k ≤ MAX_COUNT
count-fits [] fit k inside = absurd (omega arith)
count-fits (e ∷ es) fit k inside =
    let within : k < length (map numbers_of_event (e ∷ es)) = simp length-map inside in
    let one = fit k (numbers_of_event e) within in
    rw (get_or-map (λ (e : Event). e.count) (e ∷ es) k e 0 inside)
    (rw (get_or-map numbers_of_event (e ∷ es) k e (numbers_of_event e) inside) at one).0

module _ (es : List Event) (ns : List InputNumbers) (same : map numbers_of_event es ≡ ns) where
  pub ordered-falls : AreOrdered es → NeverFalls (input_counts ns)
  ordered-falls ordered = rw (← same, counts-same es) (falls-never es ordered)

  pub wrong-falls : (slot : ℕ) → All InputFits ns → IsFirstWrong es slot → NeverFalls (input_counts ns) → ⊥
  wrong-falls slot fit wrong falls =
      let fit' : All InputFits (map numbers_of_event es) = rw same fit in
      let falls' : NeverFalls (map (λ (e : Event). e.count) es) = rw (← counts-same es, same) falls in
      wrong.wrong (right-at es falls' (count-fits es fit') slot wrong.inside)
