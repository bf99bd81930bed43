use Rattle.std.proofs.Common.{◌∙◌, ◌-◌, ℕ, ap}
use Rattle.risc_model.specs.MachineState.{State}
use Rattle.risc_model.specs.Replay.{run_of}
use Rattle.galluspa.proofs.advance.run_machine.Goals as goal

pub returns-clause-run : goal.returns-clause-run
returns-clause-run c =
    let from = c.args.state.now.count in
    let steps : ℕ = c.args.to - from in
    let ran = c.in_ok-sent.ensures.state ∙ ap (λ (s : State). run_of c.args.inputs.now from steps s) c.requires.state in
    let done = c.in_ok-write_machine.ensures in
    record {
      count_is = done.count;
      state_is = done.state ∙ ran;
      sent_is = rw c.requires.state at c.in_ok-sent.ensures.sent;
      written = done.written;
    }
