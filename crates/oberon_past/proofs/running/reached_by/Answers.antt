use Rattle.std.proofs.Common.{◌∙◌, ℕ, List, ap, length, sym}
use Rattle.oberon_session.proofs.PagesStored.{changes}
use Rattle.oberon_past.proofs.running.reached_by.Goals as goal

pub returns : goal.returns
returns c =
    let delta = c.in_ok-delta.ensures.delta in
    record {
      cpu = c.cpu.ensures.cpu;
      devices = c.copy.ensures.copy ∙ c.devices.ensures;
      changed = changes _ _ c.in_ok-delta.delta.changed.items (rw (c.memory-2.ensures.base, c.memory-2.ensures.words) at delta);
      range = c.cpu.ensures.range;
      whole = ap (λ (l : List ℕ). length l) (sym c.memory.ensures.words) ∙ c.owned-owned.ensures.memory.words;
    }
