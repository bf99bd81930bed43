-- Which inputs are due, and what taking them does.
use Rattle.std.proofs.Common.{◌≡◌, ◌≢◌, ℕ, zero, suc, ◌+◌, ◌-◌, ◌<◌, ◌≤◌, Bool, true, List, [], ◌∷◌, length, get_or, drop, map, nat_eq, add-one, drop-cons, cond, refl, ap, sym, ◌∙◌, arith, length-drop}
use Rattle.std.proofs.lemmas.List.{get_or-drop, drop-map}
use Rattle.std.proofs.lemmas.Bool.{ne_eqb, eq-eqb}
use Rattle.risc_devices.specs.DeviceState.{DeviceState}
use Rattle.risc_devices.specs.Input.{taken_input}
use Rattle.risc_model.specs.declared.event.Event.{Event}
use Rattle.risc_model.specs.InputOrder.{IsNextAt, count_at}
use Rattle.risc_model.specs.Replay.{fed}
use Rattle.risc_model.proofs.OrderLemmas.{counts-order}
use Rattle.risc_model.proofs.RunLemmas.{fed-others}

-- the counts from an index on
count_at-drop : (es : List Event) (p k : ℕ) → count_at (drop p es) k ≡ count_at es (p + k)
count_at-drop es p k =
    let counts = map (λ (e : Event). e.count) es in
    sym (ap (λ (ns : List ℕ). get_or ns k 0) (drop-map (λ (e : Event). e.count) p es)) ∙ get_or-drop p counts k 0

-- inputs of earlier counts do nothing
pub fed-drop : (p : ℕ) (es : List Event) (n : ℕ) (d : DeviceState) → p ≤ length es → ((k : ℕ) → k < p → count_at es k < n) → fed es n d ≡ fed (drop p es) n d
fed-drop zero es n d inside before = refl
fed-drop (suc p) [] n d inside before = refl
fed-drop (suc p) (x ∷ es) n d inside before =
    let early : x.count < n = before 0 (omega arith) in
    rw (ne_eqb x.count n (λ e. omega arith)) (fed-drop p es n d (omega arith) (λ k h. before (suc k) (omega arith)))

-- after the inputs of a count none of them is left
pub fed-rest : (es : List Event) (p at : ℕ) (d : DeviceState) → IsNextAt es p (at + 1) → fed (drop p es) at d ≡ d
fed-rest es p at d past = fed-others (drop p es) at d (λ k h same.
    let l : length (drop p es) ≡ length es - p = length-drop p es in
    let later : at + 1 ≤ count_at es (p + k) = past.rest (p + k) (omega arith) (omega arith) in
    let moved = count_at-drop es p k in
    omega arith)

-- between two counts that have the same next input none comes
pub fed-between : (es : List Event) (next from to at : ℕ) (d : DeviceState) → IsNextAt es next from → IsNextAt es next to → from ≤ at → at < to → fed es at d ≡ d
fed-between es next from to at d first last low high =
    let after : IsNextAt es next (at + 1) = record {
      ordered = first.ordered;
      inside = first.inside;
      before = λ k h. let b = first.before k h in omega arith;
      rest = λ k h l. let r = last.rest k h l in omega arith;
    } in
    fed-drop next es at d first.inside (λ k h. let b = first.before k h in omega arith) ∙ fed-rest es next at d after

-- the inputs of a count end at the first one of a later count
pub next-after : (es : List Event) (first next at : ℕ) → IsNextAt es first at → first ≤ next → next < length es → ((k : ℕ) → k < next → count_at es k < at + 1) → count_at es next ≢ at → IsNextAt es next (at + 1)
next-after es first next at past h inside before other =
    let least = past.rest next h inside in
    record {
      ordered = past.ordered;
      inside = omega arith;
      before = before;
      rest = λ k l m. let up = counts-order es past.ordered next k l m in omega arith;
    }

-- the first of the inputs that are left, if it has this count
pub fed-here : (es : List Event) (p at : ℕ) (e : Event) (d : DeviceState) → p < length es → e ≡ get_or es p e → e.count ≡ at → fed (drop p es) at d ≡ fed (drop (p + 1) es) at (taken_input e.input d)
fed-here es p at e d inside is due =
    let front : drop p es ≡ e ∷ drop (suc p) es = drop-cons es p e inside ∙ ap (λ (x : Event). x ∷ drop (suc p) es) (sym is) in
    let test : nat_eq e.count at ≡ true = eq-eqb e.count at due in
    rw add-one (ap (λ (xs : List Event). fed xs at d) front ∙ ap (λ (b : Bool). fed (drop (suc p) es) at (cond b (taken_input e.input d) d)) test)
