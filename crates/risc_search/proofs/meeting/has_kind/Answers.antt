use Rattle.std.proofs.Common.{◌≡◌, ◌∙◌, ap, below_more, sym}
use Rattle.risc_devices.specs.Input.{kind_of}
use Rattle.risc_model.specs.declared.event.Event.{Event}
use Rattle.risc_search.specs.Condition.{kind_at}
use Rattle.risc_search.proofs.DueLemmas.{kind_at-is}
use Rattle.risc_search.proofs.meeting.has_kind.Goals as goal

pub loop-event-preserved : goal.loop-event-preserved
loop-event-preserved c =
    let es = c.args.taken.now in
    let i = c.loop-event.event-index in
    let e = c.event-item.result in
    let here : kind_at es i ≡ kind_of e.input = kind_at-is es i e c.loop-event-test.true ∙ sym (ap (λ (x : Event). kind_of x.input) c.event-item.is) in
    below_more (λ k. ¬ (kind_at es k ≡ c.args.kind)) i c.loop-event.invariant (λ same. c.if-kind.false (c.kind.ensures ∙ sym here ∙ same))
