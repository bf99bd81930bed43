use Rattle.std.proofs.Common.{◌≡◌, ◌≢◌, ◌∙◌, ◌-◌, ◌<◌, ℕ, ap, arith, inl, inr, length, sym}
use Rattle.std.proofs.lemmas.Bool.{cases_eq}
use Rattle.risc_devices.specs.Input.{kind_of}
use Rattle.risc_model.specs.declared.event.Event.{Event}
use Rattle.risc_model.specs.InputOrder.{count_at}
use Rattle.risc_model.proofs.OrderLemmas.{count_at-is}
use Rattle.risc_search.proofs.DueLemmas.{kind_at-is}
use Rattle.risc_search.specs.Condition.{kind_at}
use Rattle.oberon_past.proofs.writes.last_input.Goals as goal
use Rattle.oberon_past.proofs.writes.last_input.Goals.{else-event-at-via-then-event-at+else-kind, else-event-at-via-else-event-at}

pub loop-back-init : goal.loop-back-init
loop-back-init c = λ k after inside count kind.
    let rest = c.first_from-end.ensures.rest k (omega (arith, after)) inside in
    absurd (omega (arith, rest, count))

pub returns : goal.returns
returns c =
    let there = c.requires.there in
    absurd (c.loop-back.invariant there.index (omega (arith, c.loop-back-test.false)) there.inside there.count there.kind_is)

pub loop-back-preserved : goal.loop-back-preserved
loop-back-preserved c = λ k after inside count kind.
    let es = c.args.events.now in
    let end : ℕ = c.first_from-end.result in
    let index : ℕ = end - 1 - c.loop-back.back in
    let event : Event = c.index-events-index.result in
    elim (cases_eq k index) [
      | inl same ↦
          let within : index < length es = omega (arith, same, inside) in
          let counted : event.count ≡ c.args.at =
          ap (λ (e : Event). e.count) c.index-events-index.is ∙ sym (count_at-is es index event within) ∙ sym (ap (λ (n : ℕ). count_at es n) same) ∙ count in
          let kinded : kind_of event.input ≡ c.args.kind =
          ap (λ (e : Event). kind_of e.input) c.index-events-index.is ∙ sym (kind_at-is es index event within) ∙ sym (ap (λ (n : ℕ). kind_at es n) same) ∙ kind in
          elim c.else-event-at.branch [
            | else-event-at-via-then-event-at+else-kind w ↦ absurd (w.if-kind.false (w.kind.ensures ∙ kinded))
            | else-event-at-via-else-event-at w ↦ absurd (w.if-event-at.false counted)
          ]
      | inr other ↦
          let ne : k ≢ index = other in
          c.loop-back.invariant k (omega (arith, after, ne, c.loop-back-test.true)) inside count kind
    ]
