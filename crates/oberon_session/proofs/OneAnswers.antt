-- Any bytes have exactly one answer: a session, or the first rule that they break.
use Rattle.std.proofs.Common.{◌≡◌, ◌∙◌, ℕ, List, [], ◌∷◌, Option, Some, None, arith, ap, map, refl, subst, sym}
use Rattle.std.proofs.lemmas.List.Elements.{All-head, All-tail}
use Rattle.std.specs.List.{All}
use Rattle.std.specs.Prelude.{Result, Ok, Err}
use Rattle.risc_devices.proofs.InputLemmas.{input_of, kind_of-input_of, same_input, value_of-input_of}
use Rattle.risc_model.specs.declared.event.Event.{Event}
use Rattle.oberon_format.proofs.One.{same_event}
use Rattle.oberon_session.proofs.Table.{faultless}
use Rattle.oberon_session.specs.Draft.{Draft, InputNumbers}
use Rattle.oberon_session.specs.Laws.{IsAnswer}
use Rattle.oberon_session.specs.Rules.{draft_in, first_fault_up_to}
use Rattle.oberon_session.specs.Session.{Describes, cpu_of, numbers_of_event}
use Rattle.oberon_session.specs.SessionParts.{SessionParts}
use Rattle.oberon_session.specs.inner.Tested.{InputFits}
use Rattle.oberon_session.specs.declared.fault.SessionFault.{SessionFault}

-- ---- the events of inputs

same-numbers : (e f : Event) → numbers_of_event e ≡ numbers_of_event f → e ≡ f
same-numbers e f same =
    same_event e f (ap (λ (n : InputNumbers). n.count) same)
    (same_input e.input f.input (ap (λ (n : InputNumbers). n.kind) same) (ap (λ (n : InputNumbers). n.value) same))

same-events : (es fs : List Event) → map numbers_of_event es ≡ map numbers_of_event fs → es ≡ fs
same-events [] [] same = refl
same-events [] (f ∷ fs) same = absurd cc
same-events (e ∷ es) [] same = absurd cc
same-events (e ∷ es) (f ∷ fs) same =
    let first : numbers_of_event e ≡ numbers_of_event f = cc in
    let rest : map numbers_of_event es ≡ map numbers_of_event fs = cc in
    let e-is : e ≡ f = same-numbers e f first in
    let es-are : es ≡ fs = same-events es fs rest in
    λ i. e-is i ∷ es-are i

event-of : (input : InputNumbers) → InputFits input → Event
event-of input fits = record { count = input.count; input = input_of input.kind input.value fits.1; range = omega (arith, fits.0) }

event-of-is : (input : InputNumbers) (fits : InputFits input) → numbers_of_event (event-of input fits) ≡ input
unfolding event-of
event-of-is input fits =
    let kind = kind_of-input_of input.kind input.value fits.1 in
    let value = value_of-input_of input.kind input.value fits.1 in
    λ i. record { count = input.count; kind = kind i; value = value i }

events-of : (inputs : List InputNumbers) → All InputFits inputs → (es : List Event) × (map numbers_of_event es ≡ inputs)
events-of [] fit = ([], refl)
events-of (input ∷ inputs) fit =
    let fits = All-head InputFits input inputs fit in
    let first = event-of-is input fits in
    let others = events-of inputs (All-tail InputFits input inputs fit) in
    (event-of input fits ∷ others.0, λ i. first i ∷ others.1 i)

-- ---- the answer

same-session : (draft : Draft) (a b : SessionParts) → Describes draft a → Describes draft b → a ≡ b
same-session draft a b x y =
    let cpu : a.cpu ≡ b.cpu = x.cpu ∙ sym y.cpu in
    let some : Some a.pages ≡ Some b.pages = sym x.pages ∙ y.pages in
    let pages : a.pages ≡ b.pages = cc in
    let rate : a.rate ≡ b.rate = x.rate ∙ sym y.rate in
    let phase : a.phase ≡ b.phase = x.phase ∙ sym y.phase in
    let disk : a.disk ≡ b.disk = x.disk ∙ sym y.disk in
    let inputs : a.inputs ≡ b.inputs = same-events a.inputs b.inputs (x.inputs ∙ sym y.inputs) in
    let counts : a.counts ≡ b.counts = x.counts ∙ sym y.counts in
    λ i. record { cpu = cpu i; rate = rate i; phase = phase i; disk = disk i; pages = pages i; inputs = inputs i; counts = counts i }

-- the bytes have this answer, and no other one
abbrev HasAnswer : ℕ → List ℕ → Type 0
HasAnswer newest bytes =
    (answer : Result SessionParts SessionFault) × IsAnswer newest bytes answer × ((other : Result SessionParts SessionFault) → IsAnswer newest bytes other → other ≡ answer)

module _ (newest : ℕ) (bytes : List ℕ) where
  only-fault : (fault : SessionFault) → first_fault_up_to newest bytes ≡ Some fault → (other : Result SessionParts SessionFault) → IsAnswer newest bytes other → other ≡ Err fault
  only-fault fault is (Ok session) h =
      let bad : None ≡ Some fault = sym h.0 ∙ is in
      absurd cc
  only-fault fault is (Err own) h =
      let some : Some own ≡ Some fault = sym h ∙ is in
      let same : own ≡ fault = cc in
      ap Err same

  only-session : (draft : Draft) (session : SessionParts) → first_fault_up_to newest bytes ≡ None → draft_in newest bytes ≡ Some draft → Describes draft session
      → (other : Result SessionParts SessionFault) → IsAnswer newest bytes other → other ≡ Ok session
  only-session draft session none shape described (Ok other) h =
      let some : Some h.1 ≡ Some draft = sym h.2 ∙ shape in
      let same : h.1 ≡ draft = cc in
      ap Ok (same-session draft other session (subst (λ (d : Draft). Describes d other) same h.3) described)
  only-session draft session none shape described (Err fault) h =
      let bad : None ≡ Some fault = sym none ∙ h in
      absurd cc

  answered : (fault : Option SessionFault) → first_fault_up_to newest bytes ≡ fault → HasAnswer newest bytes
  answered (Some fault) is = (Err fault, is, only-fault fault is)
  answered None none =
      let text = faultless newest bytes none in
      let made = events-of text.draft.inputs text.range.inputs.1 in
      let start = text.draft.start in
      let session : SessionParts = record { cpu = cpu_of start; rate = start.rate; phase = start.phase; disk = start.disk; pages = text.pages; inputs = made.0; counts = text.draft.checkpoints } in
      let described : Describes text.draft session = record { cpu = refl; rate = refl; phase = refl; disk = refl; pages = text.placed; inputs = made.1; counts = refl } in
      (Ok session, (none, text.draft, text.shape, described), only-session text.draft session none text.shape described)

pub one-answer : (newest : ℕ) (bytes : List ℕ) → HasAnswer newest bytes
one-answer newest bytes = answered newest bytes (first_fault_up_to newest bytes) refl
