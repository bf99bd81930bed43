use Rattle.std.proofs.Common.{◌≡◌, Some, map, take}
use Rattle.oberon_session.specs.Shape.{each}
use Rattle.oberon_session.specs.inner.Drafts.{page_view}
use Rattle.oberon_session.specs.Parts.{placed_view}
use Rattle.oberon_session.specs.Digits.{placed_of}
use Rattle.oberon_session.proofs.digits.placed_pages.Given as goal

abbrev pub invariant-loop-draft : goal.invariant-loop-draft
invariant-loop-draft l = each placed_of (map page_view (take l.draft-index l.drafts)) ≡ Some (map placed_view l.pages.items)
