use Rattle.std.proofs.Common.{arith, refl, subst}
use Rattle.std.proofs.lemmas.Bool.{false≢true}
use Rattle.risc_model.specs.InputOrder.{AreOrdered}
use Rattle.oberon_past.proofs.Following.{follow-all, follow-fits, follow-more}
use Rattle.oberon_past.specs.Past.{PastParts}
use Rattle.oberon_past.proofs.past.Past.are_next.Goals as goal
use Rattle.oberon_past.proofs.past.Past.are_next.Goals.{then-event-least-via-then-event-least, then-event-least-via-else-event-least+then-event-gt-MAX_COUNT}

pub returns-then-event-least : goal.returns-then-event-least
returns-then-event-least c =
    let past = c.args.self.now in (
      λ no. absurd (false≢true no),
      λ next.
          let fits = follow-fits past.run.inputs c.args.inputs.now past.end c.loop-event.event-index c.loop-event.least c.event-item.result
          c.loop-event-test.true c.event-item.is c.loop-event.invariant next.ordered next.after in
          elim c.then-event-least.branch [
            | then-event-least-via-then-event-least w ↦ absurd (omega (arith, fits.0, w.if-event-least.true))
            | then-event-least-via-else-event-least+then-event-gt-MAX_COUNT w ↦ absurd (omega (arith, fits.1, w.if-event-gt-MAX_COUNT.true))
          ],
    )

pub loop-event-preserved : goal.loop-event-preserved
loop-event-preserved c =
    let past = c.args.self.now in
    follow-more past.run.inputs c.args.inputs.now past.end c.loop-event.event-index c.loop-event.least c.event-item.result c.loop-event-test.true
    c.event-item.is c.loop-event.invariant c.if-event-least.false c.if-event-gt-MAX_COUNT.false

pub returns : goal.returns
returns c =
    let past = c.args.self.now in
    let ordered = subst (λ (p : PastParts). AreOrdered p.run.inputs) c.self.view_is c.events.ensures.ordered in
    let all = follow-all past.run.inputs c.args.inputs.now past.end c.loop-event.event-index c.loop-event.least c.loop-event-test.false
    c.loop-event.invariant ordered in
    (λ yes. record { ordered = all.0; after = all.1 }, λ next. refl)
