-- Which inputs of a caller are events in order.
use Rattle.std.proofs.Common.{◌≡◌, ◌∙◌, ◌<◌, ◌≤◌, ◌+◌, ◌-◌, ◌++◌, ℕ, List, [], ◌∷◌, zero, suc, ap, sym, subst, refl, arith, get_or, length, map, take}
use Rattle.std.specs.Prelude.{◌==◌, ◌↔◌, IsTrue, false, if◌then◌else◌, slice_index, true}
use Rattle.std.proofs.Math.Seq.{take-suc}
use Rattle.std.proofs.lemmas.Bool.Decides.{nat_tests}
use Rattle.std.proofs.lemmas.List.{get_or-map, length-map, map_push}
use Rattle.risc_devices.proofs.InputLemmas.{input_of, kind_of-input_of, value_of-input_of}
use Rattle.risc_devices.specs.InputKind.{IsInputWithDisk}
use Rattle.risc_model.specs.declared.event.Event.{Event}
use Rattle.risc_model.specs.declared.inputs.TheConstants.{MAX_COUNT}
use Rattle.risc_model.specs.InputOrder.{IsFirstWrong}
use Rattle.galluspa.specs.declared.raw.RawInput.{RawInput}
use Rattle.galluspa.specs.Raw.{AreEvents, AreInOrder, raw_input}
use Rattle.galluspa.specs.inner.Running.{IsRight, raw_before, raw_count}

-- what an event is written as has a kind and a value of that kind
lawful_at : (events : List Event) (i : ℕ) (d : RawInput) → i < length (map raw_input events)
    → IsInputWithDisk (get_or (map raw_input events) i d).kind (get_or (map raw_input events) i d).value
lawful_at [] i d lt = absurd (omega arith)
lawful_at (e ∷ es) zero d lt = e.input.lawful
lawful_at (e ∷ es) (suc i) d lt = lawful_at es i d (omega arith)

-- one event more for one input more
pub one-more : (inputs : List RawInput) (events : List Event) (e : Event) (i : ℕ) (d : RawInput) → i < length inputs → map raw_input events ≡ take i inputs
    → raw_input e ≡ get_or inputs i d → map raw_input (events ++ e ∷ []) ≡ take (i + 1) inputs
one-more inputs events e i d lt before is =
    let next : suc i ≡ i + 1 = omega arith in
    map_push raw_input events e
    ∙ ap (λ (xs : List RawInput). xs ++ raw_input e ∷ []) before
    ∙ ap (λ (r : RawInput). take i inputs ++ r ∷ []) is
    ∙ sym (take-suc inputs i d lt)
    ∙ ap (λ (n : ℕ). take n inputs) next

counts_of : (events : List Event) → map (λ (r : RawInput). r.count) (map raw_input events) ≡ map (λ (e : Event). e.count) events
counts_of [] = refl
counts_of (e ∷ es) = ap (λ (ns : List ℕ). e.count ∷ ns) (counts_of es)

-- a caller's inputs have the counts of their events
counts-are : (inputs : List RawInput) (events : List Event) → AreEvents inputs events → map (λ (e : Event). e.count) events ≡ map (λ (r : RawInput). r.count) inputs
counts-are inputs events are = sym (counts_of events) ∙ ap (map (λ (r : RawInput). r.count)) are.written

-- the order at a place, of a list of counts
IsRising : ℕ → List ℕ → Type 0
IsRising place ns = ((if place == 0 then 0 else slice_index ns (place - 1)) ≤ slice_index ns place) × (slice_index ns place ≤ MAX_COUNT)

-- each input that is an event in order is right
pub right : (inputs : List RawInput) → AreInOrder inputs → (place : ℕ) → place < length inputs → IsRight inputs place
unfolding IsRising
right inputs (events, are) place inside =
    let there : place < length events = omega (arith, ap length are.written, length-map events raw_input, inside) in
    let rising : IsRising place (map (λ (r : RawInput). r.count) inputs) = subst (IsRising place) (counts-are inputs events are) (are.ordered place there) in
    record {
      rises = rising.0;
      bounded = rising.1;
      is_input = λ d.
          let P : List RawInput → Type 0 = λ (xs : List RawInput). IsInputWithDisk (get_or xs place d).kind (get_or xs place d).value in
          subst P are.written (lawful_at events place d (rw are.written inside));
    }

same-there : (xs : List RawInput) (i : ℕ) (d e : RawInput) → i < length xs → get_or xs i d ≡ get_or xs i e
same-there [] i d e lt = absurd (omega arith)
same-there (x ∷ xs) zero d e lt = refl
same-there (x ∷ xs) (suc i) d e lt = same-there xs i d e (omega arith)

-- the input of an event is in its range
pub input-there : (inputs : List RawInput) (i : ℕ) (d : RawInput) → i < length inputs → IsInputWithDisk (get_or inputs i d).kind (get_or inputs i d).value
    → (e : RawInput) → IsInputWithDisk (get_or inputs i e).kind (get_or inputs i e).value
input-there inputs i d lt lawful e = subst (λ (r : RawInput). IsInputWithDisk r.kind r.value) (same-there inputs i d e lt) lawful

-- the events of inputs that are right
made : (inputs : List RawInput) → ((k : ℕ) (d : RawInput) → k < length inputs → IsInputWithDisk (get_or inputs k d).kind (get_or inputs k d).value)
    → ((k : ℕ) → k < length inputs → raw_count inputs k ≤ MAX_COUNT) → (events : List Event) × (map raw_input events ≡ inputs)
made [] lawful bounded = ([], refl)
made (r ∷ rs) lawful bounded =
    let rest = made rs (λ k d lt. lawful (suc k) d (omega arith)) (λ k lt. bounded (suc k) (omega arith)) in
    let fits = lawful 0 r (omega arith) in
    let bound : r.count ≤ MAX_COUNT = bounded 0 (omega arith) in
    let event : Event = record { count = r.count; input = input_of r.kind r.value fits; range = omega (arith, bound) } in
    let same : raw_input event ≡ r =
    λ i. record { count = r.count; kind = kind_of-input_of r.kind r.value fits i; value = value_of-input_of r.kind r.value fits i } in
    (event ∷ rest.0, ap (λ (x : RawInput). x ∷ map raw_input rest.0) same ∙ ap (λ (xs : List RawInput). r ∷ xs) rest.1)

pub in-order : (inputs : List RawInput) → ((k : ℕ) → k < length inputs → IsRight inputs k) → AreInOrder inputs
unfolding IsRising
in-order inputs rights =
    let events = made inputs (λ k d lt. (rights k lt).is_input d) (λ k lt. (rights k lt).bounded) in
    let same : map (λ (r : RawInput). r.count) inputs ≡ map (λ (e : Event). e.count) events.0 =
    ap (map (λ (r : RawInput). r.count)) (sym events.1) ∙ counts_of events.0 in (
      events.0,
      record {
        written = events.1;
        ordered = λ place inside.
            let there : place < length inputs = omega (arith, ap length events.1, length-map events.0 raw_input, inside) in
            let is = rights place there in
            subst (IsRising place) same (is.rises, is.bounded);
      },
    )

-- the count of the input at an index
pub raw-count : (inputs : List RawInput) (i : ℕ) (d : RawInput) → i < length inputs → raw_count inputs i ≡ (get_or inputs i d).count
raw-count inputs i d lt = get_or-map (λ (r : RawInput). r.count) inputs i d 0 lt

-- the count before the next index is the one here
pub raw-next : (inputs : List RawInput) (i : ℕ) → raw_before inputs (i + 1) ≡ raw_count inputs i
raw-next inputs i = grind (arith, nat_tests)

-- events that are written as inputs in order are not out of order
pub not-unordered : (inputs : List RawInput) (list : List Event) (at : ℕ) → map raw_input list ≡ inputs → IsFirstWrong list at → AreInOrder inputs → ⊥
unfolding IsRising
not-unordered inputs list at same wrong (events, are) =
    let counts = counts-are inputs events are ∙ ap (map (λ (r : RawInput). r.count)) (sym same) ∙ counts_of list in
    let longs = sym (length-map events raw_input) ∙ ap length (are.written ∙ sym same) ∙ length-map list raw_input in
    wrong.wrong (subst (IsRising at) counts (are.ordered at (rw longs wrong.inside)))

-- a test that fails where it should
pub untrue : {P : Type 0} → (P → ⊥) → IsTrue false ↔ P
untrue fails = (λ same. absurd (let e : false ≡ true = same in cc), λ p. absurd (fails p))
