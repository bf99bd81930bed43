use Rattle.std.proofs.Common.{◌≡◌, ◌+◌, ◌<◌, ◌∙◌, ap, arith, below_more, sym}
use Rattle.risc_model.specs.declared.event.Event.{Event}
use Rattle.risc_model.specs.InputOrder.{count_at}
use Rattle.risc_model.proofs.OrderLemmas.{count_at-is}
use Rattle.risc_machine.proofs.DueLemmas.{next-after}
use Rattle.risc_search.proofs.effect.inputs_after.Goals as goal

pub loop-index-init : goal.loop-index-init
loop-index-init c = λ k h. let b = c.requires.before k h in omega arith

pub returns-then-events-index : goal.returns-then-events-index
returns-then-events-index c =
    let es = c.args.events.now in
    let l = c.loop-index in
    next-after es c.args.next l.index c.args.at c.requires l.auto.index c.loop-index-test.true l.invariant
    (λ same. c.if-events-index.true (sym (count_at-is es l.index c.index-events-index.result c.loop-index-test.true) ∙ same))

pub loop-index-preserved : goal.loop-index-preserved
loop-index-preserved c =
    let es = c.args.events.now in
    let here = count_at-is es c.loop-index.index c.index-events-index.result c.loop-index-test.true ∙ c.if-events-index.false in
    below_more (λ k. count_at es k < c.args.at + 1) c.loop-index.index c.loop-index.invariant (omega arith)
