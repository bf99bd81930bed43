use Rattle.std.proofs.lemmas.List.{map-append}
use Rattle.std.proofs.lemmas.Result.{err_from_is_err_and}
use Rattle.oberon_session.proofs.Shapes.{each-none, each-step}
use Rattle.oberon_session.specs.inner.Drafts.{page_view}
use Rattle.oberon_session.specs.Digits.{placed_of}
use Rattle.oberon_session.specs.inner.Tested.{PageFits}
use Rattle.oberon_session.proofs.Mapped.{unmapped}
use Rattle.oberon_session.proofs.digits.placed_pages.Goals as goal

pub returns-in_err-placed_page : goal.returns-in_err-placed_page
returns-in_err-placed_page c =
    let from = err_from_is_err_and c.from_residual.result c.from_residual.ensures.1 in
    rw (from.1, from.2) (λ no.
    let wrong = c.in_err-placed_page.ensures no in
    (wrong.0, each-none placed_of page_view _ _ _ c.loop-draft-test.true wrong.1))

pub loop-draft-preserved : goal.loop-draft-preserved
loop-draft-preserved c =
    let one = c.in_ok-placed_page.ensures in
    rw (c.in_ok-push.ensures.items, map-append) (each-step placed_of page_view _ _ _ _ _ c.loop-draft-test.true c.loop-draft.invariant one)

pub placed_page-requires : goal.placed_page-requires
placed_page-requires c = unmapped page_view PageFits _ c.requires _ _ c.loop-draft-test.true
