use Rattle.std.proofs.Common.{◌≡◌, ◌-◌, ℕ, ◌<◌, get_or}
use Rattle.risc_pages.specs.declared.slot.Slot.{Slot}
use Rattle.risc_pages.specs.Pages.{page_of}
use Rattle.risc_pages.specs.inner.Slots.{content}
use Rattle.risc_pages.proofs.memory.Memory.least_other.Given as goal

abbrev pub decreases-loop-slot : goal.decreases-loop-slot
decreases-loop-slot l = 1024 - l.slot

abbrev pub invariant-loop-slot : goal.invariant-loop-slot
invariant-loop-slot l = (k : ℕ) (d : Slot) (e : ℕ) → k < l.slot → content (get_or l.self-inside.slots.items k d) ≡ page_of l.pool (get_or l.numbers k e)
