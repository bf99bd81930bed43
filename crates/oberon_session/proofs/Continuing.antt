-- Inputs and a count that follow the last checkpoint of a recording.
use Rattle.std.proofs.Common.{◌≡◌, ◌<◌, ◌≤◌, ◌↔◌, ℕ, Bool, false, List, arith, subst, sym}
use Rattle.std.proofs.lemmas.Bool.{iff_false}
use Rattle.std.specs.List.{All}
use Rattle.std.specs.Prelude.{IsTrue}
use Rattle.risc_model.specs.InputOrder.{AreOrdered}
use Rattle.risc_model.specs.declared.event.Event.{Event}
use Rattle.risc_model.specs.declared.inputs.TheConstants.{MAX_COUNT}
use Rattle.oberon_format.specs.Recording.{RecordingParts}
use Rattle.oberon_session.specs.Extended.{HasTakenAll, IsNext, last_count}
use Rattle.oberon_session.proofs.JoinedOrder.{each-count, ordered-append, ordered-right}

-- the counts of inputs are from one count up to another
abbrev AreBetween : ℕ → ℕ → List Event → Type 0
AreBetween from to inputs = All (λ e. (from ≤ e.count) × (e.count < to)) inputs

module _ (r : RecordingParts) (inputs : List Event) (count last : ℕ) (same : last ≡ last_count r) where
  pub not-later : count ≤ last → IsNext r inputs count → ⊥
  not-later low next = omega (arith, same, low, next.later)

  pub not-bounded : MAX_COUNT < count → IsNext r inputs count → ⊥
  not-bounded high next = omega (arith, high, next.bounded)

  pub not-between : (b : Bool) → IsTrue b ↔ AreBetween last count inputs → b ≡ false → IsNext r inputs count → ⊥
  not-between b reports untrue next = iff_false reports untrue (subst (λ (n : ℕ). AreBetween n count inputs) (sym same) next.between)

  pub not-ordered : (b : Bool) → IsTrue b ↔ AreOrdered inputs → b ≡ false → IsNext r inputs count → ⊥
  not-ordered b reports untrue next = iff_false reports untrue (ordered-right r.inputs inputs next.ordered)

  pub is-next : HasTakenAll r → AreOrdered r.inputs → last < count → count ≤ MAX_COUNT → AreBetween last count inputs → AreOrdered inputs → IsNext r inputs count
  is-next taken before later bounded between ordered =
      let from-last = subst (λ (n : ℕ). AreBetween n count inputs) same between in
      record {
        later = subst (λ (n : ℕ). n < count) same later;
        bounded = bounded;
        ordered =
            ordered-append r.inputs inputs (last_count r) before ordered
            (λ i lt. each-count (λ (c : ℕ). c < last_count r) r.inputs i lt taken)
            (λ i lt. each-count (λ (c : ℕ). last_count r ≤ c) inputs i lt (λ k d h. (from-last k d h).0));
        between = from-last;
      }
