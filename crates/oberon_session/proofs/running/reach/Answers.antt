use Rattle.std.proofs.Common.{◌≡◌, ◌-◌, ◌∙◌, List, ℕ, ap, length, subst, sym}
use Rattle.risc_devices.specs.DeviceState.{DeviceState}
use Rattle.risc_pages.specs.Tables.{table_words}
use Rattle.risc_model.specs.MachineState.{CpuState, State, IsCpuState, cpu_state}
use Rattle.risc_model.specs.Replay.{run_of, sent_of}
use Rattle.oberon_session.proofs.PagesStored.{changes}
use Rattle.oberon_session.proofs.running.reach.Goals as goal

pub returns-clause-reached : goal.returns-clause-reached
returns-clause-reached c =
    let es = c.args.inputs.now in
    let from = c.args.last.now.count in
    let steps : ℕ = c.args.to - from in
    let words : List ℕ = table_words c.args.pool.now c.args.last.now.table.numbers in
    let cpu : CpuState = cpu_state c.args.last.now.cpu in
    let begun : c.in_ok-machine.machine.state ≡ record { cpu = cpu; devices = c.args.last.now.devices; words = words } =
    c.in_ok-machine.ensures.state ∙ ap (λ (d : DeviceState). record { cpu = cpu; devices = d; words = words }) c.copy.ensures.copy in
    let state = c.in_ok-sent.ensures.state ∙ ap (λ (s : State). run_of es from steps s) begun in
    let base = c.in_ok-sent.ensures.kept ∙ c.in_ok-machine.ensures.base in
    let last-words = ap (λ (s : State). s.words) state in
    let delta = c.in_ok-cpu.ensures.delta in
    record {
      cpu = c.in_ok-cpu.ensures.cpu ∙ ap (λ (s : State). s.cpu) state;
      devices = c.in_ok-cpu.ensures.devices ∙ ap (λ (s : State). s.devices) state;
      output = c.in_ok-sent.ensures.sent ∙ ap (λ (s : State). sent_of es from steps s) begun;
      changed = changes _ _ c.in_ok-cpu.delta.changed.items (rw (base, last-words) at delta);
      range = subst IsCpuState (c.in_ok-cpu.ensures.cpu ∙ ap (λ (s : State). s.cpu) state) c.in_ok-cpu.ensures.range;
      whole = ap (λ (l : List ℕ). length l) (sym last-words ∙ sym c.memory.ensures.words) ∙ c.owned-owned.ensures.memory.words;
    }
