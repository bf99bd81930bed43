-- Inputs in order, index by index.
use Rattle.std.proofs.Common.{◌≡◌, ℕ, zero, suc, ◌+◌, ◌-◌, ◌<◌, ◌≤◌, true, false, ◌∙◌, List, [], ◌∷◌, ap, length, length-take, get_or, map, nat_lt, refl, subst, sym, take, add-zero, arith}
use Rattle.std.proofs.lemmas.List.{get_or-map, get_or-take, take-map}
use Rattle.std.proofs.lemmas.Bool.Decides.{nat_tests}
use Rattle.std.specs.List.Sorted.{IsNonDecreasingBy, IsPartitionPoint}
use borrow.Author.Tests.{ltb-true, ltb-false}
use Rattle.risc_model.specs.declared.event.Event.{Event}
use Rattle.risc_model.specs.InputOrder.{AreOrdered, IsNextAt, count_at, count_before}

-- the count at an index is that of the event there
pub count_at-is : (es : List Event) (index : ℕ) (d : Event) → index < length es → count_at es index ≡ (get_or es index d).count
count_at-is es index d inside = get_or-map (λ (e : Event). e.count) es index d 0 inside

-- the count before the next index is the one here
pub count_before-next : (es : List Event) (index : ℕ) → count_before es (index + 1) ≡ count_at es index
count_before-next es index = grind (arith, nat_tests)

-- the counts of inputs in order rise
counts-up : (es : List Event) → AreOrdered es → (j m : ℕ) → j + m < length es → count_at es j ≤ count_at es (j + m)
counts-up es ordered j zero inside = rw add-zero (omega arith)
counts-up es ordered j (suc m) inside =
    let e : j + suc m ≡ j + m + 1 = omega arith in
    let so_far = counts-up es ordered j m (omega arith) in
    let up = (ordered (j + m + 1) (omega arith)).0 in
    let step = count_before-next es (j + m) in
    rw e (omega arith)

pub counts-order : (es : List Event) → AreOrdered es → (j k : ℕ) → j ≤ k → k < length es → count_at es j ≤ count_at es k
counts-order es ordered j k h inside =
    let up = counts-up es ordered j (k - j) (omega arith) in
    let same : j + (k - j) ≡ k = omega arith in
    rw same at up

pub counts-rise : (es : List Event) → AreOrdered es → IsNonDecreasingBy (λ (e : Event). e.count) es
counts-rise es ordered = λ j k d h inside.
    let first = count_at-is es j d (omega arith) in
    let last = count_at-is es k d inside in
    let up = counts-order es ordered j k h inside in
    omega arith

-- a list that is not empty has an event
some_event : (es : List Event) → 0 < length es → Event
some_event [] h = absurd (omega arith)
some_event (x ∷ es) h = x

-- the index that a binary search finds
pub found-next : (es : List Event) (next at : ℕ) → AreOrdered es → next ≤ length es → IsPartitionPoint (λ (e : Event). nat_lt e.count at ≡ true) (λ (e : Event). nat_lt e.count at ≡ false) es next → IsNextAt es next at
found-next es next at ordered inside found = record {
  ordered = ordered;
  inside = inside;
  before = λ k h.
      let d = some_event es (omega arith) in
      let is = count_at-is es k d (omega arith) in
      let below = found.0 k d (omega arith) h in
      omega (arith, ltb-true _ _ below);
  rest = λ k h l.
      let d = some_event es (omega arith) in
      let is = count_at-is es k d l in
      let above = found.1 k d h l in
      omega (arith, ltb-false _ _ above);
}

-- up to the count of the next input, or up to an earlier one, it stays the next
pub next-up_to : (es : List Event) (next at to : ℕ) → IsNextAt es next at → at ≤ to → (next < length es → to ≤ count_at es next) → IsNextAt es next to
next-up_to es next at to past later least = record {
  ordered = past.ordered;
  inside = past.inside;
  before = λ k h. let b = past.before k h in omega arith;
  rest = λ k h l.
      let up = counts-order es past.ordered next k h l in
      let first = least (omega arith) in
      omega arith;
}

-- the counts in the first events of a list
pub count_at-take : (es : List Event) (n k : ℕ) → k < n → count_at (take n es) k ≡ count_at es k
count_at-take es n k low =
    let counts : Event → ℕ = λ (e : Event). e.count in
    ap (λ (ns : List ℕ). get_or ns k 0) (sym (take-map counts n es)) ∙ get_or-take n (map counts es) k 0 low

count_before-take : (es : List Event) (n k : ℕ) → k < n → count_before (take n es) k ≡ count_before es k
count_before-take es n zero low = refl
count_before-take es n (suc k) low =
    let next : k + 1 ≡ suc k = omega arith in
    subst (λ (i : ℕ). count_before (take n es) i ≡ count_before es i) next
    (count_before-next (take n es) k ∙ count_at-take es n k (omega arith) ∙ sym (count_before-next es k))

-- the first of events in order are in order
pub ordered-take : (es : List Event) (n : ℕ) → AreOrdered es → AreOrdered (take n es)
ordered-take es n ordered index inside =
    let long = length-take n es in
    let right = ordered index (omega (arith, long, inside)) in
    let low : index < n = omega (arith, long, inside) in
    rw (count_at-take es n index low, count_before-take es n index low) right
