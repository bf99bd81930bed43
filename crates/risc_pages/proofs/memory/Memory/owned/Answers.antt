use Rattle.std.proofs.Common.{arith}
use Rattle.risc_pages.proofs.SlotLemmas.{IsMemory-contents_of, owned_at}
use Rattle.risc_pages.proofs.memory.Memory.owned.Goals as goal

pub returns-in-Owned-clause-memory : goal.returns-in-Owned-clause-memory
returns-in-Owned-clause-memory c = IsMemory-contents_of _ _ _ c.self.invariant c.self.view_is

pub returns-in_default-clause-memory : goal.returns-in_default-clause-memory
returns-in_default-clause-memory c = IsMemory-contents_of _ _ _ c.self.invariant c.self.view_is

pub returns-in-Owned-clause-owned : goal.returns-in-Owned-clause-owned
returns-in-Owned-clause-owned c =
    owned_at c.self.inside.slots.items c.self.inside.bases.items c.args.slot c.index.ensures c.in-Owned.is c.self.view_is c.self.invariant.count (omega (arith, c.requires))
