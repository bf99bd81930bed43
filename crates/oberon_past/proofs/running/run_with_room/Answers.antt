use Rattle.std.proofs.Common.{◌≡◌, ◌∙◌, ◌+◌, ◌-◌, ◌++◌, ℕ, List, Option, Some, ap, arith, length, sym}
use Rattle.std.specs.Option.{option_to_list}
use Rattle.std.proofs.lemmas.List.{length_push}
use Rattle.risc_model.proofs.RunLemmas.{sent_of-more}
use Rattle.risc_model.specs.Exec.{exec}
use Rattle.risc_model.specs.MachineState.{State}
use Rattle.risc_model.specs.Replay.{begun_at, sent_of}
use Rattle.oberon_past.proofs.running.run_with_room.Goals as goal

pub returns-in-Ok-Some-clause-stretch : goal.returns-in-Ok-Some-clause-stretch
returns-in-Ok-Some-clause-stretch c =
    let es = c.args.inputs.now in
    let from : ℕ = c.args.from in
    let at : ℕ = c.in-Err.fault.at in
    let state : State = c.args.machine.now.state in
    let so_far : List ℕ = sent_of es from (at - from) state in
    let sent : c.run_within.new.output.bytes.items ≡ so_far = c.in-Err.ensures.fault_sent ∙ ap (λ (l : List ℕ). l ++ so_far) c.new.ensures.items in
    let byte : (exec (begun_at es from at state)).1 ≡ Some c.in-Ok-Some.field-0-0 =
    ap (λ (s : State). (exec s).1) (sym c.in-Err.ensures.fault_state) ∙ ap (λ (o : State × Option ℕ). o.1) c.in-Ok-Some.ensures.exec ∙ c.in-Ok-Some.field-0-is in
    let more = ap length (sent_of-more es from at state c.in-Err.ensures.fault_range.0 ∙ ap (λ (o : Option ℕ). so_far ++ option_to_list o) byte) in
    let room = c.in-Err.ensures.room in
    record {
      further = (c.in-Err.ensures.fault_range.0, omega (arith, c.in-Err.ensures.fault_range.1));
      sent = sent;
      fits = omega (arith, c.in-Err.ensures.held, room);
      full = λ early.
          omega (arith, more, length_push so_far c.in-Ok-Some.field-0-0, ap length sent, c.if-len-room.false, c.len.ensures, c.run_within.new.output.bytes.ok.0);
    }
