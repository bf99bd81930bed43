use Rattle.std.proofs.Common.{ℕ, Some, ap, sym, ◌∙◌, arith}
use Rattle.risc_model.specs.MachineState.{State}
use Rattle.risc_model.specs.Exec.{exec}
use Rattle.risc_machine.proofs.CountLemmas.{exec_sends}
use Rattle.risc_machine.proofs.SilentLemmas.{silent-still, silent-step}
use Rattle.risc_machine.proofs.machine.Machine.step.Goals as goal

pub returns-in-Over-clause-exec : goal.returns-in-Over-clause-exec
returns-in-Over-clause-exec c = silent-step _ _ c.in-Over.ensures.exit

pub returns-in-Sends-clause-exec : goal.returns-in-Sends-clause-exec
returns-in-Sends-clause-exec c =
    let step = c.in-Sends.ensures.exit.0 in
    let sends = c.in-Sends.ensures.exit.1 in
    ap (λ (s : State). exec s) (silent-still _ _ _ (omega (arith, step.more)) step.silent) ∙ exec_sends _ _ sends ∙ c.send.ensures.sent
    ∙ ap (λ (byte : ℕ). (c.send.new.self.state, Some byte)) (sym c.lowest_byte.ensures)
