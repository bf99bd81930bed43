use Rattle.oberon_session.proofs.Continuing.{is-next}
use Rattle.oberon_session.proofs.JoinedOrder.{ordered-right}
use Rattle.oberon_session.proofs.following.is_next.Goals as goal

pub returns-then-are_between : goal.returns-then-are_between
returns-then-are_between c =
    let r = c.args.recording.now in
    let inputs = c.args.inputs.now in (
      λ ordered.
          is-next r inputs c.args.count c.last_count-last.result c.last_count-last.ensures.count c.requires c.last_count-last.ensures.lawful.ordered
          c.if-count-last.false c.if-count-gt-MAX_COUNT.false (c.are_between.ensures.0 c.if-are_between.true) (c.are_ordered.ensures.0 ordered),
      λ next. c.are_ordered.ensures.1 (ordered-right r.inputs inputs next.ordered),
    )
