use Rattle.std.proofs.Common.{◌≡◌, ◌<◌, ◌≤◌, ℕ, length, slice_index_or}
use Rattle.risc_pages.specs.Pages.{page_of}
use Rattle.galluspa.specs.declared.claims.RawPage.{RawPage}
use Rattle.galluspa.proofs.claims.write_pages.Given as goal

abbrev pub invariant-loop-id : goal.invariant-loop-id
invariant-loop-id l = record {
  count : length l.pages ≡ length l.fn.pages;
  each : (id : ℕ) (d : RawPage) → id < l.id → (slice_index_or l.pages id d).words ≡ page_of l.pool id;
  rest : (id : ℕ) (d : RawPage) → l.id ≤ id → slice_index_or l.pages id d ≡ slice_index_or l.fn.pages id d;
}
