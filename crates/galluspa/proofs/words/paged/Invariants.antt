use Rattle.std.proofs.Common.{◌≡◌, ◌<◌, ◌+◌, ℕ, List, get_or, length}
use Rattle.risc_pages.specs.Pages.{page_at}
use Rattle.galluspa.proofs.words.paged.Given as goal

abbrev pub invariant-loop-slot : goal.invariant-loop-slot
invariant-loop-slot l = record {
  pages : length l.pool ≡ l.slot;
  each : (k : ℕ) (d : List ℕ) → k < length l.pool → page_at l.words k ≡ get_or l.pool k d;
  number : (k d : ℕ) → k < l.slot → get_or l.table.numbers k d ≡ k + 1;
}
