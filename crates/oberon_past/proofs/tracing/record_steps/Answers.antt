use Rattle.std.proofs.Common.{◌≡◌, ◌∙◌, ◌+◌, ◌-◌, ℕ, suc, List, ap, arith, length, refl, subst, sym}
use Rattle.risc_model.specs.declared.event.Event.{Event}
use Rattle.risc_model.specs.Exec.{exec}
use Rattle.risc_model.specs.InputOrder.{IsNextAt}
use Rattle.risc_model.specs.MachineState.{State, IsCpuState}
use Rattle.risc_model.specs.Replay.{feed, run_of}
use Rattle.risc_model.proofs.RunLemmas.{run_of-none, run_of-suc}
use Rattle.oberon_past.proofs.Traces.{records-more}
use Rattle.oberon_past.specs.Run.{Run}
use Rattle.oberon_past.specs.Trace.{IsRecord}
use Rattle.oberon_past.specs.declared.traced.Record.{Record}
use Rattle.oberon_past.proofs.tracing.record_steps.Goals as goal

pub loop-at-init : goal.loop-at-init
loop-at-init c =
    let from : ℕ = c.args.from in
    let none = ap (λ (l : List Record). length l) c.new-list.ensures.items in
    record {
      state = sym (run_of-none c.args.inputs.now from (from - from) c.args.machine.now.state (omega arith));
      next = subst (λ (es : List Event). IsNextAt es c.first_from-next.result from) c.events-events.ensures.events c.first_from-next.ensures;
      records = record {
        each = λ i d inside. absurd (omega (arith, inside, none));
        next_is = omega (arith, none);
      };
    }

pub loop-at-preserved : goal.loop-at-preserved
loop-at-preserved c =
    let so_far = c.loop-at.invariant in
    let es : List Event = c.args.inputs.now in
    let from : ℕ = c.args.from in
    let at : ℕ = c.loop-at.at in
    let s : State = c.args.machine.now.state in
    let m : State = c.loop-at.machine.state in
    let run : Run = record { start = from; first = s; inputs = es } in
    let here : at ≡ from + (at - from) = omega (arith, so_far.records.next_is) in
    let more : suc (at - from) ≡ at + 1 - from = omega (arith, so_far.records.next_is) in
    let r : Record = record { count = at; cpu = c.cpu-cpu.result.now; devices = c.copy-devices.result; effect = c.in_ok-effect.effect } in
    let is : IsRecord r es at m = record {
      count_is = refl;
      cpu_is = c.cpu-cpu.ensures.cpu;
      range = subst IsCpuState (sym c.cpu-cpu.ensures.cpu) c.cpu-cpu.ensures.range;
      devices_are = c.copy-devices.ensures.copy ∙ c.devices.ensures;
      effect = c.in_ok-effect.ensures.effect;
    } in
    record {
      state = c.in_ok-effect.ensures.state
          ∙ ap (λ (t : State). (exec (feed es at t)).0) so_far.state
          ∙ ap (λ (n : ℕ). (exec (feed es n (run_of es from (at - from) s))).0) here
          ∙ sym (run_of-suc es from (at - from) s)
          ∙ ap (λ (n : ℕ). run_of es from n s) more;
      next = subst (λ (events : List Event). IsNextAt events c.inputs_after-end.result (at + 1)) c.events-events.ensures.events c.inputs_after-end.ensures;
      records = records-more run from at c.loop-at.list c.push.new.self r c.in_ok-push.ensures.items (subst (λ (t : State). IsRecord r es at t) so_far.state is) so_far.records;
    }
