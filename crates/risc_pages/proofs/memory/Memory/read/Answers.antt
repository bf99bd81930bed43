use Rattle.std.proofs.Common.{◌≡◌, ◌/◌, get_or, ap}
use Rattle.risc_pages.proofs.SlotLemmas.{IsMemory-contents_of, word_at}
use Rattle.risc_pages.specs.Contents.{Contents}
use Rattle.risc_pages.specs.declared.slot.Slot.{Slot}
use Rattle.risc_pages.proofs.memory.Memory.read.Goals as goal

pub returns-clause-word : goal.returns-clause-word
returns-clause-word c =
    let p : Slot = c.index.result.now in
    let is : p ≡ get_or c.self.inside.slots.items (c.args.number / 256) p = c.index.ensures in
    rw c.page.ensures (word_at _ _ p _ c.self.invariant.count c.requires is (ap (λ (m : Contents). m.words) c.self.view_is))

pub returns-clause-memory : goal.returns-clause-memory
returns-clause-memory c = IsMemory-contents_of _ _ _ c.self.invariant c.self.view_is
