use Rattle.std.proofs.Common.{◌≡◌, ℕ, map}
use Rattle.std.specs.List.{All}
use Rattle.risc_pages.specs.declared.page.Page.{Page}
use Rattle.risc_pages.specs.Delta.{changed_below}
use Rattle.risc_pages.specs.Pages.{page_at}
use Rattle.oberon_past.proofs.moment.changed_pages.Given as goal

abbrev pub invariant-loop-slot : goal.invariant-loop-slot
invariant-loop-slot l = record {
  slots : map (λ (c : ℕ × Page). c.0) l.changed.items ≡ changed_below l.slot l.base.words l.memory.words;
  pages : All (λ (c : ℕ × Page). c.1.words ≡ page_at l.memory.words c.0) l.changed.items;
}
