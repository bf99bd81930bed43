use Rattle.std.proofs.Common.{◌≡◌, length, take}
use Rattle.galluspa.specs.inner.Pages.{with_pages}
use Rattle.galluspa.proofs.words.write_delta.Given as goal

abbrev pub invariant-loop-slot : goal.invariant-loop-slot
invariant-loop-slot l = record {
  len : length l.words ≡ 262144;
  written : l.words ≡ with_pages l.initial.words (take l.slot-index l.delta.changed.items);
}
