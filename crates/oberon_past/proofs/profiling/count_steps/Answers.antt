use Rattle.std.proofs.Common.{◌≡◌, ◌∙◌, ◌-◌, ◌%◌, ◌^◌, ◌<◌, ℕ, List, ap, arith, length, slice_index, subst, sym}
use Rattle.risc_machine.specs.Tallies.{Adds, AreVisits, Tally}
use Rattle.risc_model.specs.declared.event.Event.{Event}
use Rattle.risc_model.specs.MachineState.{State}
use Rattle.risc_model.specs.Visits.{departures, visits}
use Rattle.oberon_past.proofs.Counting.{adds-sums, first-state, whole-back}
use Rattle.oberon_past.proofs.profiling.count_steps.Goals as goal

pub returns-clause-profiled : goal.returns-clause-profiled
returns-clause-profiled c =
    let es : List Event = c.args.inputs.now in
    let from : ℕ = c.args.from in
    let n : ℕ = c.args.to - from in
    let s : State = c.args.machine.now.state in
    let zero : Tally = c.in_ok-counters.counters in
    let tally : Tally = c.profile.new.counters in
    let counted = c.in-Ok.ensures.counted in
    let there = sym (first-state es from s) in
    let arrived =
    c.visits.ensures.visits es from n s c.cpu.ensures.cpu (c.cpu-2.ensures.cpu ∙ ap (λ (t : State). t.cpu) c.in-Ok.ensures.state)
    (zero, c.in_ok-counters.ensures, counted) in
    let left : (p : ℕ) → p < 2 ^ 18 → slice_index tally.departures p % 2 ^ 64 ≡ departures p es from n s % 2 ^ 64 =
    λ p inside. let none = c.in_ok-counters.ensures.departures p in let more = counted.departures p inside in omega (arith, none, more) in
    let many : c.in_ok-numbers.numbers.len ≡ length c.visits.new.visits = omega (arith, c.visits.auto.visits, c.deref_mut.ensures.len) in
    let many-2 : c.in_ok-numbers.numbers.len ≡ length c.departures.new.departures = omega (arith, c.departures.auto.departures, c.deref_mut-2.ensures.len) in
    let back = c.deref.ensures.value ∙ whole-back c.in_ok-numbers.numbers.len c.visits.new.visits _ many in
    let back-2 = c.deref-2.ensures.value ∙ whole-back c.in_ok-numbers.numbers.len c.departures.new.departures _ many-2 ∙ c.departures.ensures in
    record {
      visits_are = subst (λ (t : State). Adds (λ p. visits p es from n t) c.args.visits.now c.add.new.counts) there
          (adds-sums (λ p. visits p es from n s) c.args.visits.now c.deref.result.now c.add.new.counts c.requires.visits c.add.ensures.sums
          (subst (λ (l : List ℕ). AreVisits es from n s l) (sym back) arrived));
      departures_are = subst (λ (t : State). Adds (λ p. departures p es from n t) c.args.departures.now c.add-2.new.counts) there
          (adds-sums (λ p. departures p es from n s) c.args.departures.now c.deref-2.result.now c.add-2.new.counts c.requires.departures c.add-2.ensures.sums
          (subst (λ (l : List ℕ). (p : ℕ) → p < 2 ^ 18 → slice_index l p % 2 ^ 64 ≡ departures p es from n s % 2 ^ 64)
          (sym back-2) left));
    }
