use Rattle.std.proofs.Common.{◌≡◌, ℕ, ◌<◌, ◌≤◌, ◌++◌, get_or, length, false}
use Rattle.std.specs.Vec.{vec_capacity}
use Rattle.std.specs.Vec.Iter.{into_iter_items, into_iter_len}
use Rattle.risc_pages.specs.Pages.{page_of}
use Rattle.risc_pages.specs.declared.detached.DetachedSlot.{DetachedSlot}
use Rattle.risc_pages.specs.declared.slot.Began.{Began}
use Rattle.risc_pages.specs.declared.slot.Slot.{Slot}
use Rattle.risc_pages.specs.inner.Detached.{IsSameSlot}
use Rattle.risc_pages.specs.inner.Slots.{base_of, content, is_owned}
use Rattle.risc_pages.proofs.detached.DetachedMemory.attach.Given as goal

abbrev pub invariant-loop-slot : goal.invariant-loop-slot
invariant-loop-slot l = record {
  room : 1024 ≤ vec_capacity l.slots;
  bases_room : 1024 ≤ vec_capacity l.bases;
  split : l.yielded ++ into_iter_items l.slot-iterator ≡ into_iter_items l.initial.slot-iterator;
  left : into_iter_len l.slot-iterator ≡ length (into_iter_items l.slot-iterator);
  count : length l.slots.items ≡ length l.yielded;
  bases_count : length l.bases.items ≡ length l.yielded;
  same : (k : ℕ) (s : Slot) → k < length l.slots.items → (d : DetachedSlot) → IsSameSlot (get_or l.slots.items k s) (page_of l.pool (get_or l.numbers k 0)) (get_or (into_iter_items l.initial.slot-iterator) k d);
  based : (k : ℕ) (s : Slot) → k < length l.slots.items → is_owned (get_or l.slots.items k s) ≡ false → content (get_or l.slots.items k s) ≡ page_of l.pool (get_or l.numbers k 0);
  bases_same : (k : ℕ) (b : Began) → k < length l.bases.items → base_of (get_or l.bases.items k b) ≡ page_of l.pool (get_or l.numbers k 0);
}
