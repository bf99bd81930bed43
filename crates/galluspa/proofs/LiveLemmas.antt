-- Inputs of a caller that come next in a past.
use Rattle.std.proofs.Common.{◌≡◌, ◌∙◌, ◌≤◌, ◌<◌, ℕ, List, ap, arith, get_or, length, map, subst, sym}
use Rattle.std.specs.List.{All}
use Rattle.std.specs.Prelude.{◌↔◌}
use Rattle.std.proofs.lemmas.List.{get_or-map, length-map}
use Rattle.std.proofs.lemmas.List.Elements.{All-map}
use Rattle.risc_model.specs.declared.event.Event.{Event}
use Rattle.risc_model.specs.InputOrder.{AreOrdered}
use Rattle.oberon_past.specs.Live.{AreNext}
use Rattle.oberon_past.specs.Past.{PastParts}
use Rattle.galluspa.specs.declared.raw.RawInput.{RawInput}
use Rattle.galluspa.specs.Live.{ComeNext}
use Rattle.galluspa.specs.Raw.{AreEvents, AreInOrder, raw_input}
use Rattle.galluspa.proofs.ExtendLemmas.{same-events}

abbrev IsLate : ℕ → RawInput → Type 0
IsLate least input = least ≤ input.count

-- the counts of a caller's inputs are those of their events
of-inputs : (least : ℕ) (events : List Event) → All (IsLate least) (map raw_input events) → All (λ (e : Event). least ≤ e.count) events
of-inputs least events late = λ k d lt.
    let here = late k (raw_input d) (omega (arith, lt, length-map events raw_input)) in
    let same = ap (λ (i : RawInput). i.count) (get_or-map raw_input events k d (raw_input d) lt) in
    omega (arith, here, same)

-- a past says the least count of an input that comes next
module _ (p : PastParts) (least : ℕ) (law : (events : List Event) → AreNext p events ↔ (AreOrdered events × All (λ (e : Event). least ≤ e.count) events))
    (inputs : List RawInput) where
  pub come-next : AreInOrder inputs → All (IsLate least) inputs → ComeNext inputs p
  come-next order late = record {
    events = order.0;
    are_events = order.1;
    next = (law order.0).1 (order.1.ordered, of-inputs least order.0 (subst (All (IsLate least)) (sym order.1.written) late));
  }

  pub come-late : ComeNext inputs p → All (IsLate least) inputs
  come-late come = subst (All (IsLate least)) come.are_events.written (All-map (IsLate least) raw_input come.events ((law come.events).0 come.next).1)

-- a caller's inputs are one list of events
pub come-not : (inputs : List RawInput) (events : List Event) (p : PastParts) → AreEvents inputs events → ¬ (AreNext p events) → ¬ (ComeNext inputs p)
come-not inputs events p are not = λ come.
    not (subst (AreNext p) (same-events come.events events (come.are_events.written ∙ sym are.written)) come.next)
