-- Counts of the steps of a run that are added to others.
use Rattle.std.proofs.Common.{◌≡◌, ◌≢◌, ◌∙◌, ◌+◌, ◌-◌, ◌%◌, ◌^◌, ◌<◌, ◌≤◌, ◌&&◌, ◌++◌, ℕ, List, ap, arith, inl, inr, length, set, slice_index, subst, sym, take}
use Rattle.std.proofs.Math.Seq.{take-append_seam}
use Rattle.std.proofs.lemmas.Bool.{cases_eq}
use Rattle.std.proofs.lemmas.List.{get_or-set_same, get_or-set_other}
use Rattle.risc_pages.specs.declared.sizes.TheConstants.{MEMORY_WORDS}
use Rattle.risc_machine.specs.Tallies.{Adds}
use Rattle.risc_model.proofs.VisitLemmas.{over-none, over-on}
use Rattle.risc_model.proofs.RunLemmas.{run_of-none}
use Rattle.risc_model.specs.declared.event.Event.{Event}
use Rattle.risc_model.specs.MachineState.{State}
use Rattle.risc_model.specs.Replay.{run_of}
use Rattle.risc_model.specs.Visits.{departures, is_at, jumps, one_if, sum_over, visits}
use Rattle.oberon_past.proofs.Searches.{state-between}
use Rattle.oberon_past.specs.Profile.{Counts, HasProfiled}
use Rattle.oberon_past.specs.Run.{Run, state_at}

-- what is written over the front of a list, if that is all of it
pub whole-back : (n : ℕ) (xs ys : List ℕ) → n ≡ length xs → take n (xs ++ ys) ≡ xs
whole-back n xs ys many = rw many (take-append_seam xs ys)

-- ---- numbers that are added one after another

-- the first k counts are sums
abbrev pub AreSums : ℕ → List ℕ → List ℕ → List ℕ → Type 0
AreSums k old more new = (p : ℕ) → p < k → slice_index new p ≡ (slice_index old p + slice_index more p) % 2 ^ 64

-- the counts from k on are as they were
abbrev pub AreKept : ℕ → List ℕ → List ℕ → Type 0
AreKept k old new = (p : ℕ) → k ≤ p → slice_index new p ≡ slice_index old p

pub sums-more : (old more new : List ℕ) (k v : ℕ) → k < length new → v ≡ (slice_index old k + slice_index more k) % 2 ^ 64 → AreSums k old more new
    → AreSums (k + 1) old more (set new k v)
sums-more old more new k v inside is before p low = elim (cases_eq p k) [
  | inl same ↦
      let P : ℕ → Type 0 = λ q. slice_index (set new k v) q ≡ (slice_index old q + slice_index more q) % 2 ^ 64 in
      subst P (sym same) (get_or-set_same new k v 0 inside ∙ is)
  | inr other ↦ get_or-set_other new k p v 0 other ∙ before p (let ne : p ≢ k = other in omega (arith, low))
]

pub kept-more : (old new : List ℕ) (k v : ℕ) → AreKept k old new → AreKept (k + 1) old (set new k v)
kept-more old new k v before p high = get_or-set_other new k p v 0 (λ same. absurd (omega (arith, same, high))) ∙ before p (omega (arith, high))

-- numbers that count something, added to others
pub adds-sums : (f : ℕ → ℕ) (old more new : List ℕ) → length old ≡ MEMORY_WORDS → AreSums (length old) old more new
    → ((p : ℕ) → p < 2 ^ 18 → slice_index more p % 2 ^ 64 ≡ f p % 2 ^ 64) → Adds f old new
adds-sums f old more new long sums are p inside =
    let sum = sums p (omega (arith, long, inside)) in
    let number = are p inside in
    omega (arith, sum, number)

-- ---- the counts of no step

adds-none : (f : ℕ → ℕ) (counts : List ℕ) → ((p : ℕ) → f p ≡ 0) → Adds f counts counts
adds-none f counts none p inside =
    let zero = none p in
    omega (arith, zero)

pub profiled-none : (run : Run) (from to : ℕ) (counts : Counts) → from ≡ to → HasProfiled run from to counts counts
profiled-none run from to counts same = record {
  visits_are = adds-none _ counts.visits (λ p. over-none (λ t. one_if (is_at p t)) run.inputs from (to - from) (state_at run from) (omega (arith, same)));
  departures_are = adds-none _ counts.departures (λ p. over-none (λ t. one_if (is_at p t && jumps t)) run.inputs from (to - from) (state_at run from) (omega (arith, same)));
}

-- ---- a run on from a count

-- its first state
pub first-state : (es : List Event) (from : ℕ) (s : State) → state_at (record { start = from; first = s; inputs = es }) from ≡ s
first-state es from s = run_of-none es from (from - from) s (omega arith)

pub profiled-within : (run : Run) (from to : ℕ) (s : State) (old new : Counts) → s ≡ state_at run from
    → HasProfiled (record { start = from; first = s; inputs = run.inputs }) from to old new → HasProfiled run from to old new
profiled-within run from to s old new is part =
    let same = first-state run.inputs from s ∙ is in
    record {
      visits_are = subst (λ (t : State). Adds (λ p. visits p run.inputs from (to - from) t) old.visits new.visits) same part.visits_are;
      departures_are = subst (λ (t : State). Adds (λ p. departures p run.inputs from (to - from) t) old.departures new.departures) same part.departures_are;
    }

-- ---- two parts of a run

pub counts-on : (f : State → ℕ) (run : Run) (from at to : ℕ) → run.start ≤ from → from ≤ at → at ≤ to
    → sum_over f run.inputs from (to - from) (state_at run from)
    ≡ sum_over f run.inputs from (at - from) (state_at run from) + sum_over f run.inputs at (to - at) (state_at run at)
counts-on f run from at to start on more =
    let s : State = state_at run from in
    let first : ℕ = sum_over f run.inputs from (at - from) s in
    let whole : to - from ≡ at - from + (to - at) = omega (arith, on, more) in
    let here : from + (at - from) ≡ at = omega (arith, on) in
    ap (λ (n : ℕ). sum_over f run.inputs from n s) whole
    ∙ over-on f run.inputs from (at - from) (to - at) s
    ∙ ap (λ (k : ℕ). first + sum_over f run.inputs k (to - at) (run_of run.inputs from (at - from) s)) here
    ∙ ap (λ (t : State). first + sum_over f run.inputs at (to - at) t) (sym (state-between run from at start on))

pub adds-both : (f g h : ℕ → ℕ) (old mid new : List ℕ) → ((p : ℕ) → h p ≡ f p + g p) → Adds f old mid → Adds g mid new → Adds h old new
adds-both f g h old mid new whole first second p inside =
    let sum = whole p in
    let one = first p inside in
    let two = second p inside in
    omega (arith, sum, one, two)
