use Rattle.std.proofs.Common.{◌≡◌, ◌+◌, ◌≤◌, length, map, take}
use Rattle.oberon_session.specs.Stored.{IsGrown, store_pages, stored_view, changed_page_view}
use Rattle.oberon_session.proofs.storing.store_pages.Given as goal

abbrev pub invariant-loop-slot : goal.invariant-loop-slot
invariant-loop-slot l = record {
  stored : stored_view l.stored ≡ store_pages (stored_view l.initial.stored) (map changed_page_view (take l.slot-index l.changed));
  kept : IsGrown l.initial.stored.pool l.stored.pool;
  room : length l.stored.pool ≤ length l.initial.stored.pool + l.slot-index;
}
