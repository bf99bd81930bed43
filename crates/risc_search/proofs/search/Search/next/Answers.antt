use Rattle.std.proofs.Common.{◌∙◌, ◌-◌, ℕ, List, ap, arith, refl, subst, sym}
use Rattle.std.proofs.lemmas.Bool.{ne_eqb}
use Rattle.std.proofs.lemmas.Option.{MatchOption-at_none, MatchOption-at_some}
use Rattle.risc_model.specs.declared.event.Event.{Event}
use Rattle.risc_model.specs.MachineState.{CpuState}
use Rattle.risc_model.proofs.RunLemmas.{run_of-none, run_of-over}
use Rattle.risc_search.specs.Search.{IsMet}
use Rattle.risc_search.specs.Step.{Step}
use Rattle.risc_search.specs.inner.Due.{IsQuiet}
use Rattle.risc_search.proofs.IdleLemmas.{quiet-later}
use Rattle.risc_search.proofs.KeepLemmas.{keeps-all, keeps-on}
use Rattle.risc_search.proofs.SearchLemmas.{first-here, none-both, none-from, none-later, none-on, run-on, step-on}
use Rattle.risc_search.proofs.search.Search.next.Goals as goal

pub loop-at-init : goal.loop-at-init
loop-at-init c =
    let range = c.requires.progress in
    record {
      reached = omega arith;
      later = range.later;
      inside = range.inside;
      quiet = range.quiet;
      state = sym (run_of-none _ _ _ _ (omega arith));
      none = λ n after inside. absurd (omega (arith, after, inside));
      armed = refl;
      kept = keeps-all _;
    }

pub due_after-due-requires-clause-quiet : goal.due_after-due-requires-clause-quiet
due_after-due-requires-clause-quiet c = λ few.
    subst (λ (es : List Event). IsQuiet es c.in_ok-passed.passed.at c.loop-at.due) (sym c.events-events.ensures.events)
    (quiet-later c.args.self.now.inputs.now c.loop-at.at c.in_ok-passed.passed.at c.loop-at.due c.loop-at.invariant.quiet (omega (arith, c.in_ok-passed.ensures.further)))

pub returns-in-Some-clause-first : goal.returns-in-Some-clause-first
returns-in-Some-clause-first c =
    let es = c.args.self.now.inputs.now in
    let i = c.loop-at.invariant in
    let from : ℕ = c.args.progress.now.at in
    let at : ℕ = c.loop-at.at in
    let p : ℕ = c.in_ok-passed.passed.at in
    let s = c.args.machine.now.state in
    let t = c.loop-at.machine.state in
    let conditions = c.args.self.now.conditions.now in
    let passed = c.in_ok-passed.ensures in
    let met = MatchOption-at_some _ _ c.in-Some.condition c.in-Some.is passed.passed in
    first-here conditions es from at p c.args.to s c.in-Some.condition i.reached passed.further (omega (arith, c.loop-at-test.true, passed.inside, i.inside)) i.none
    (none-from conditions es from at (p - 1) s t i.reached i.state met.0)
    (subst (λ (step : Step). IsMet conditions es step c.in-Some.condition) (step-on es from at (p - 1) s t i.reached (omega (arith, passed.further)) i.state) met.1)

pub returns-in-Some-clause-progress : goal.returns-in-Some-clause-progress
returns-in-Some-clause-progress c =
    let due = c.due_after-due.ensures in
    record {
      later = due.later;
      inside = due.inside;
      quiet = subst (λ (es : List Event). IsQuiet es c.in_ok-passed.passed.at c.due_after-due.result) c.events-events.ensures.events due.quiet;
    }

pub returns-in-Some-clause-state : goal.returns-in-Some-clause-state
returns-in-Some-clause-state c =
    let i = c.loop-at.invariant in
    let passed = c.in_ok-passed.ensures in
    passed.state
    ∙ run-on c.args.self.now.inputs.now c.args.progress.now.at c.loop-at.at c.in_ok-passed.passed.at c.args.machine.now.state c.loop-at.machine.state i.reached (omega (arith, passed.further)) i.state

pub loop-at-preserved : goal.loop-at-preserved
loop-at-preserved c =
    let es = c.args.self.now.inputs.now in
    let i = c.loop-at.invariant in
    let from : ℕ = c.args.progress.now.at in
    let at : ℕ = c.loop-at.at in
    let p : ℕ = c.in_ok-passed.passed.at in
    let s = c.args.machine.now.state in
    let t = c.loop-at.machine.state in
    let conditions = c.args.self.now.conditions.now in
    let passed = c.in_ok-passed.ensures in
    let due = c.due_after-due.ensures in
    record {
      reached = omega (arith, i.reached, passed.further);
      later = due.later;
      inside = due.inside;
      quiet = subst (λ (es : List Event). IsQuiet es p c.due_after-due.result) c.events-events.ensures.events due.quiet;
      state = passed.state ∙ run-on es from at p s t i.reached (omega (arith, passed.further)) i.state;
      none = none-both conditions es from s from at p i.none (none-from conditions es from at p s t i.reached i.state (MatchOption-at_none _ _ c.in_default.is passed.passed));
      armed = passed.armed ∙ i.armed;
      kept = keeps-on _ _ _ i.kept passed.kept;
    }

pub returns-else-cpu-eq0-clause-first : goal.returns-else-cpu-eq0-clause-first
returns-else-cpu-eq0-clause-first c =
    let i = c.loop-at.invariant in
    let conditions = c.args.self.now.conditions.now in
    let es = c.args.self.now.inputs.now in
    let from : ℕ = c.args.progress.now.at in
    let s = c.args.machine.now.state in
    let stopped = ne_eqb c.loop-at.machine.state.cpu.stop 0 (λ same. c.if-cpu-eq0.false (ap (λ (x : CpuState). x.stop) c.cpu.ensures.cpu ∙ same)) in
    none-on conditions es from s from c.loop-at.at c.args.to i.none (none-later conditions es from c.loop-at.at s c.loop-at.machine.state i.reached i.state stopped)

pub returns-else-cpu-eq0-clause-state : goal.returns-else-cpu-eq0-clause-state
returns-else-cpu-eq0-clause-state c =
    let i = c.loop-at.invariant in
    let stopped = ne_eqb c.loop-at.machine.state.cpu.stop 0 (λ same. c.if-cpu-eq0.false (ap (λ (x : CpuState). x.stop) c.cpu.ensures.cpu ∙ same)) in
    run_of-over c.args.self.now.inputs.now c.args.progress.now.at c.loop-at.at c.args.to c.args.machine.now.state c.loop-at.machine.state i.reached (omega (arith, i.later, i.inside)) i.state stopped
