use Rattle.std.proofs.Common.{◌≡◌, ℕ, ◌<◌, ◌≤◌, get_or, length, false}
use Rattle.std.specs.List.{All}
use Rattle.std.specs.Vec.{vec_capacity}
use Rattle.risc_pages.specs.declared.slot.Began.{Began}
use Rattle.risc_pages.specs.declared.slot.Slot.{Slot}
use Rattle.risc_pages.specs.Pages.{page_of}
use Rattle.risc_pages.specs.inner.Slots.{base_of, content, is_owned}
use Rattle.risc_pages.proofs.memory.Memory.from_table.Given as goal

abbrev pub invariant-loop-number : goal.invariant-loop-number
invariant-loop-number l = record {
  room : 1024 ≤ vec_capacity l.slots;
  bases_room : 1024 ≤ vec_capacity l.bases;
  count : length l.slots.items ≡ l.number-index;
  bases_count : length l.bases.items ≡ l.number-index;
  same : (k : ℕ) (d : Slot) (e : ℕ) → k < length l.slots.items → content (get_or l.slots.items k d) ≡ page_of l.pool (get_or l.numbers k e);
  bases_same : (k : ℕ) (d : Began) (e : ℕ) → k < length l.bases.items → base_of (get_or l.bases.items k d) ≡ page_of l.pool (get_or l.numbers k e);
  shared : All (λ (p : Slot). is_owned p ≡ false) l.slots.items;
}
