use Rattle.std.proofs.lemmas.Grind.{common_steps}
use Rattle.std.proofs.Common.{◌≡◌, ap, sym, ◌∙◌, arith, below_more}
use Rattle.risc_model.specs.declared.event.Event.{Event}
use Rattle.risc_model.specs.InputOrder.{IsRightIndex, count_at}
use Rattle.risc_model.proofs.OrderLemmas.{count_at-is, count_before-next}
use Rattle.risc_model.proofs.inputs.first_wrong.Goals as goal

pub loop-at-preserved : goal.loop-at-preserved
loop-at-preserved c =
    let es = c.args.list.now in
    let at = c.loop-at.at in
    let here : count_at es at ≡ c.index-list-at.result.count =
    count_at-is es at c.index-list-at.result c.loop-at-test.true ∙ sym (ap (λ (e : Event). e.count) c.index-list-at.is) in
    let right : IsRightIndex es at = (omega arith, omega arith) in
    record {
      right = below_more (λ k. IsRightIndex es k) at c.loop-at.invariant.right right;
      least = sym here ∙ sym (count_before-next es at);
    }

pub returns-then-event-least-clause-some : goal.returns-then-event-least-clause-some
returns-then-event-least-clause-some c = grind (arith, common_steps)
