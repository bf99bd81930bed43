use Rattle.std.proofs.Common.{◌≡◌, ℕ, ◌<◌, ◌≤◌, ◌++◌, get_or, length}
use Rattle.std.specs.Vec.{vec_capacity}
use Rattle.std.specs.Vec.Iter.{into_iter_items, into_iter_len}
use Rattle.risc_pages.specs.declared.detached.DetachedSlot.{DetachedSlot}
use Rattle.risc_pages.specs.declared.slot.Began.{Began}
use Rattle.risc_pages.specs.declared.slot.Slot.{Slot}
use Rattle.risc_pages.specs.inner.Detached.{IsSameSlot}
use Rattle.risc_pages.specs.inner.Slots.{base_of}
use Rattle.risc_pages.proofs.memory.Memory.detach.Given as goal

abbrev pub invariant-loop-slot : goal.invariant-loop-slot
invariant-loop-slot l = record {
  room : 1024 ≤ vec_capacity l.detached;
  split : l.yielded ++ into_iter_items l.slot-iterator ≡ into_iter_items l.initial.slot-iterator;
  left : into_iter_len l.slot-iterator ≡ length (into_iter_items l.slot-iterator);
  count : length l.detached.items ≡ length l.yielded;
  same : (k : ℕ) (e : DetachedSlot) → k < length l.detached.items → (d : Slot) (b : Began) → IsSameSlot (get_or (into_iter_items l.initial.slot-iterator) k d) (base_of (get_or l.bases.items k b)) (get_or l.detached.items k e);
}
