-- Which inputs come at a count, and when the next one does.
use Rattle.std.proofs.Common.{◌≡◌, ◌∙◌, ◌+◌, ◌-◌, ◌<◌, ◌≤◌, ℕ, List, length, get_or, map, take, drop, ap, sym, inl, inr, arith, length-take, length-drop}
use Rattle.std.specs.Prelude.{◌↔◌}
use Rattle.std.proofs.lemmas.Bool.{cases_lt}
use Rattle.std.proofs.lemmas.List.{get_or-map, get_or-take, get_or-drop, take-map, drop-map}
use Rattle.risc_devices.specs.Input.{kind_of}
use Rattle.risc_model.specs.declared.event.Event.{Event}
use Rattle.risc_model.specs.InputOrder.{IsNextAt}
use Rattle.risc_search.specs.Condition.{HasInput, kind_at}
use Rattle.risc_search.specs.inner.Due.{HasKind, IsQuiet}

-- between two counts that have the same next input none comes
pub quiet-between : (es : List Event) (index n due : ℕ) → IsNextAt es index n → IsNextAt es index due → IsQuiet es n due
quiet-between es index n due first last = λ m after before k inside same.
    elim (cases_lt k index) [
      | inl low ↦ let b = first.before k low in absurd (omega arith)
      | inr high ↦ let r = last.rest k high inside in absurd (omega arith)
    ]

-- the first input of a count comes before the first of a later one
pub index-order : (es : List Event) (first end n m : ℕ) → IsNextAt es first n → IsNextAt es end m → n ≤ m → first ≤ end
index-order es first end n m low high later =
    elim (cases_lt end first) [
      | inl h ↦ let b = low.before end h in let r = high.rest end (omega arith) (omega (arith, low.inside)) in absurd (omega arith)
      | inr h ↦ h
    ]

-- the kind at an index of a part of the list
kind-within : (es : List Event) (first count i : ℕ) → i < count → kind_at (take count (drop first es)) i ≡ kind_at es (first + i)
kind-within es first count i inside =
    let kinds : Event → ℕ = λ (e : Event). kind_of e.input in
    ap (λ (ns : List ℕ). get_or ns i 0) (sym (take-map kinds count (drop first es)))
    ∙ get_or-take count (map kinds (drop first es)) i 0 inside
    ∙ ap (λ (ns : List ℕ). get_or ns i 0) (sym (drop-map kinds first es))
    ∙ get_or-drop first (map kinds es) i 0

-- an input between the first of a count and the first of a later one has this count
input-between : (es : List Event) (first end n : ℕ) → IsNextAt es first n → IsNextAt es end (n + 1) → (kind : ℕ) → HasKind kind (take (end - first) (drop first es)) → HasInput kind es n
input-between es first end n low high kind has =
    let inside : has.index < end - first = omega (arith, has.inside, length-take (end - first) (drop first es)) in
    let below : first + has.index < length es = omega (arith, inside, high.inside) in
    let after = low.rest (first + has.index) (omega arith) below in
    let before = high.before (first + has.index) (omega (arith, inside)) in
    record {
      index = first + has.index;
      inside = below;
      count = omega (arith, after, before);
      kind_is = sym (kind-within es first (end - first) has.index inside) ∙ has.kind_is;
    }

-- an input of the count is between them
between-input : (es : List Event) (first end n : ℕ) → IsNextAt es first n → IsNextAt es end (n + 1) → (kind : ℕ) → HasInput kind es n → HasKind kind (take (end - first) (drop first es))
between-input es first end n low high kind has =
    let after : first ≤ has.index = elim (cases_lt has.index first) [
      | inl h ↦ let b = low.before has.index h in absurd (omega (arith, b, has.count))
      | inr h ↦ h
    ] in
    let before : has.index < end = elim (cases_lt has.index end) [
      | inl h ↦ h
      | inr h ↦ let r = high.rest has.index h has.inside in absurd (omega (arith, r, has.count))
    ] in
    let inside : has.index - first < end - first = omega (arith, after, before) in
    let place : first + (has.index - first) ≡ has.index = omega (arith, after) in
    record {
      index = has.index - first;
      inside = omega (arith, inside, length-take (end - first) (drop first es), length-drop first es, high.inside);
      kind_is = kind-within es first (end - first) (has.index - first) inside ∙ ap (λ (i : ℕ). kind_at es i) place ∙ has.kind_is;
    }

pub kinds-between : (es : List Event) (first end n : ℕ) → IsNextAt es first n → IsNextAt es end (n + 1) → (kind : ℕ) → HasKind kind (take (end - first) (drop first es)) ↔ HasInput kind es n
kinds-between es first end n low high kind = (input-between es first end n low high kind, between-input es first end n low high kind)

-- the kind at an index is that of the event there
pub kind_at-is : (es : List Event) (index : ℕ) (d : Event) → index < length es → kind_at es index ≡ kind_of (get_or es index d).input
kind_at-is es index d inside = get_or-map (λ (e : Event). kind_of e.input) es index d 0 inside
