use Rattle.std.proofs.Common.{refl}
use Rattle.oberon_session.proofs.Lawful.{is-lawful}
use Rattle.oberon_session.specs.inner.Drafts.{draft_view}
use Rattle.oberon_session.proofs.reading.session_of.Goals as goal

pub invariant_of-result : goal.invariant_of-result
invariant_of-result c =
    let tested = c.in_ok-inputs.ensures.ok in
    is-lawful (draft_view c.args.draft) c.cpu_of.result _ _ _ c.in_ok-pages.pages.items c.in_ok-inputs.inputs c.args.draft.checkpoints.items
    tested.range tested.order tested.ordered tested.numbers c.cpu_of.ensures refl refl refl (rw c.deref.ensures.value at c.in_ok-pages.ensures) refl
