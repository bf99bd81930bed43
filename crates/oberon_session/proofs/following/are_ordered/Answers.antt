use Rattle.std.proofs.Common.{◌≡◌, ◌∙◌, ap, arith, below_more, sym}
use Rattle.risc_model.specs.declared.event.Event.{Event}
use Rattle.risc_model.specs.InputOrder.{IsRightIndex, count_at}
use Rattle.risc_model.proofs.OrderLemmas.{count_at-is, count_before-next}
use Rattle.oberon_session.proofs.following.are_ordered.Goals as goal

pub loop-event-preserved : goal.loop-event-preserved
loop-event-preserved c =
    let es = c.args.inputs.now in
    let slot = c.loop-event.event-index in
    let here : count_at es slot ≡ c.event-item.result.count =
    count_at-is es slot c.event-item.result c.loop-event-test.true ∙ sym (ap (λ (e : Event). e.count) c.event-item.is) in
    let right : IsRightIndex es slot = (omega arith, omega arith) in
    record {
      right = below_more (λ k. IsRightIndex es k) slot c.loop-event.invariant.right right;
      least = sym here ∙ sym (count_before-next es slot);
    }
