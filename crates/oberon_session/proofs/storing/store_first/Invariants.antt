use Rattle.std.proofs.Common.{◌≡◌, length, map, take}
use Rattle.oberon_session.specs.Digits.{PlacedWords}
use Rattle.oberon_session.specs.Parts.{placed_view}
use Rattle.oberon_session.specs.Recorded.{numbered}
use Rattle.oberon_session.proofs.storing.store_first.Given as goal

abbrev pub invariant-loop-page : goal.invariant-loop-page
invariant-loop-page l = record {
  pages : l.pool ≡ map (λ (page : PlacedWords). page.words) (map placed_view (take l.page-index l.pages));
  count : length l.pool ≡ l.page-index;
  numbers : l.table.numbers ≡ numbered (map placed_view l.pages) l.page-index;
}
