use Rattle.std.proofs.Common.{◌≡◌, ◌≤◌, ℕ, map, take, drop}
use Rattle.risc_pages.specs.declared.page.Page.{Page}
use Rattle.galluspa.specs.inner.Moments.{raw_page}
use Rattle.galluspa.proofs.moments.write_changed.Given as goal

abbrev pub invariant-loop-index : goal.invariant-loop-index
invariant-loop-index l = record {
  slots_front : take l.index l.slots ≡ map (λ (c : ℕ × Page). c.0) (take l.index l.changed);
  pages_front : take l.index l.pages ≡ map raw_page (take l.index l.changed);
  slots_rest : (n : ℕ) → l.index ≤ n → drop n l.slots ≡ drop n l.fn.slots;
  rest : (n : ℕ) → l.index ≤ n → drop n l.pages ≡ drop n l.fn.pages;
}
