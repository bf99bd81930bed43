use Rattle.std.proofs.Common.{◌≡◌, ℕ, List, ap, arith, subst}
use Rattle.risc_model.specs.declared.event.Event.{Event}
use Rattle.risc_model.specs.MachineState.{State}
use Rattle.oberon_past.proofs.Counting.{profiled-none, profiled-within}
use Rattle.oberon_past.specs.Past.{PastParts}
use Rattle.oberon_past.specs.Profile.{Counts, HasProfiled}
use Rattle.oberon_past.specs.Run.{Run}
use Rattle.oberon_past.proofs.past.Past.profile.Goals as goal

pub returns-then-from-to-clause-profiled : goal.returns-then-from-to-clause-profiled
returns-then-from-to-clause-profiled c =
    (c.in_default.ensures.none, profiled-none c.args.self.now.run c.args.from c.args.to _ (omega (arith, c.if-from-to.true)))

pub returns-then-not-branch-clause-profiled : goal.returns-then-not-branch-clause-profiled
returns-then-not-branch-clause-profiled c =
    let range = c.in_default.ensures.none in
    (range, omega arith, omega (arith, range.1, c.if-from-to.false), profiled-none c.args.self.now.run c.args.from c.args.from _ (omega arith))

pub returns-then-end-to-clause-profiled : goal.returns-then-end-to-clause-profiled
returns-then-end-to-clause-profiled c =
    let range = c.in_default.ensures.none in
    let run : Run = c.approach.new.self.run in
    let from : ℕ = c.args.from in
    let end : ℕ = c.search_end-end.result in
    let s : State = c.in_ok-machine.machine.state in
    let before : Counts = record { visits = c.args.visits.now; departures = c.args.departures.now } in
    let after : Counts = record { visits = c.count_steps.new.visits; departures = c.count_steps.new.departures } in
    let inputs = ap (λ (p : PastParts). p.run.inputs) c.self.view_is in
    let part = subst (λ (es : List Event). HasProfiled (record { start = from; first = s; inputs = es }) from end before after) inputs c.in_ok-count_steps.ensures.profiled in (
      range,
      omega (arith, c.search_end-end.ensures.0),
      c.if-end-to.true,
      subst (λ (r : Run). HasProfiled r from end before after) c.approach.ensures.longer.run (profiled-within run from end s before after c.in_ok-machine.ensures part),
    )

pub returns-clause-profiled : goal.returns-clause-profiled
returns-clause-profiled c =
    let range = c.in_default.ensures.none in
    let run : Run = c.approach.new.self.run in
    let from : ℕ = c.args.from in
    let to : ℕ = c.args.to in
    let end : ℕ = c.search_end-end.result in
    let s : State = c.in_ok-machine.machine.state in
    let before : Counts = record { visits = c.args.visits.now; departures = c.args.departures.now } in
    let after : Counts = record { visits = c.count_steps.new.visits; departures = c.count_steps.new.departures } in
    let inputs = ap (λ (p : PastParts). p.run.inputs) c.self.view_is in
    let whole : end ≡ to = omega (arith, c.search_end-end.ensures.1, c.if-end-to.false) in
    let part = subst (λ (es : List Event). HasProfiled (record { start = from; first = s; inputs = es }) from end before after) inputs c.in_ok-count_steps.ensures.profiled in (
      range,
      subst (λ (r : Run). HasProfiled r from to before after) c.approach.ensures.longer.run
          (subst (λ (n : ℕ). HasProfiled run from n before after) whole (profiled-within run from end s before after c.in_ok-machine.ensures part)),
    )
