use Rattle.std.proofs.Common.{◌∙◌, ap, refl, subst, sym}
use Rattle.risc_model.specs.MachineState.{State, IsCpuState}
use Rattle.oberon_session.proofs.PagesStored.{changes}
use Rattle.oberon_past.proofs.past.Past.moment.Goals as goal

pub returns : goal.returns
returns c =
    let state = c.in_ok-machine.ensures in
    let words = c.memory.ensures.words ∙ ap (λ (s : State). s.words) state in
    let delta = c.in_ok-changed.ensures in
    record {
      count = refl;
      cpu = c.cpu.ensures.cpu ∙ ap (λ (s : State). s.cpu) state;
      range = subst IsCpuState (sym c.cpu.ensures.cpu) c.cpu.ensures.range;
      devices = c.copy.ensures.copy ∙ c.devices.ensures ∙ ap (λ (s : State). s.devices) state;
      changed = changes _ _ c.in_ok-changed.changed.items (rw words at delta);
    }
