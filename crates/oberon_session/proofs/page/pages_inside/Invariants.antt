use Rattle.std.proofs.Common.{◌≡◌, List, length, map, option_map}
use Rattle.serde_json.specs.Data.{Data}
use Rattle.oberon_session.specs.Draft.{page_of}
use Rattle.oberon_session.specs.Shape.{each}
use Rattle.oberon_session.specs.inner.Drafts.{page_view}
use Rattle.oberon_session.proofs.Taking.{HasTaken}
use Rattle.oberon_session.proofs.page.pages_inside.Given as goal

abbrev pub invariant-items : goal.invariant-items
invariant-items l =
    (taken : List Data) × HasTaken l.depth l.initial.reader taken l.reader × (option_map (λ v. map page_view v.items) l.found ≡ each page_of taken)

abbrev pub decreases-items : goal.decreases-items
decreases-items l = length l.reader
