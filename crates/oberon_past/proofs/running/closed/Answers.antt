use Rattle.std.proofs.Common.{◌∙◌, ℕ, List, ap, length, subst, sym}
use Rattle.risc_model.specs.MachineState.{IsCpuState}
use Rattle.oberon_session.proofs.PagesStored.{changes}
use Rattle.oberon_past.proofs.running.closed.Goals as goal

pub returns : goal.returns
returns c =
    let parts = c.in_ok-cpu.ensures in
    record {
      cpu = parts.cpu;
      devices = parts.devices;
      changed = changes _ _ c.in_ok-cpu.delta.changed.items parts.delta;
      range = subst IsCpuState parts.cpu parts.range;
      whole = ap (λ (l : List ℕ). length l) (sym c.memory.ensures.words) ∙ c.owned-owned.ensures.memory.words;
    }
