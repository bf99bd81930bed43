use Rattle.std.proofs.Common.{◌≡◌, ℕ, map}
use Rattle.std.specs.List.{All, flat_map}
use Rattle.risc_pages.specs.declared.page.Page.{Page}
use Rattle.risc_pages.specs.Delta.{changed_below}
use Rattle.risc_pages.specs.Pages.{page_at}
use Rattle.risc_pages.specs.inner.Slots.{base_of, content}
use Rattle.risc_pages.proofs.memory.Memory.changes.Given as goal

abbrev pub invariant-loop-slot : goal.invariant-loop-slot
invariant-loop-slot l = record {
  slots : map (λ (c : ℕ × Page). c.0) l.changed.items ≡ changed_below l.slot (flat_map base_of l.self-inside.bases.items) (flat_map content l.self-inside.slots.items);
  pages : All (λ (c : ℕ × Page). c.1.words ≡ page_at (flat_map content l.self-inside.slots.items) c.0) l.changed.items;
}
