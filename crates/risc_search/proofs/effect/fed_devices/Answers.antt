use Rattle.std.proofs.Common.{◌≡◌, ◌+◌, ◌≤◌, ◌<◌, ◌∙◌, ℕ, ap, arith, drop, sym}
use Rattle.risc_devices.specs.DeviceState.{DeviceState}
use Rattle.risc_devices.specs.Input.{taken_input}
use Rattle.risc_model.specs.declared.event.Event.{Event}
use Rattle.risc_model.specs.InputOrder.{count_at}
use Rattle.risc_model.specs.Replay.{fed}
use Rattle.risc_model.proofs.OrderLemmas.{count_at-is}
use Rattle.risc_machine.proofs.DueLemmas.{fed-drop, fed-here, fed-rest}
use Rattle.risc_search.proofs.DueLemmas.{index-order}
use Rattle.risc_search.proofs.effect.fed_devices.Goals as goal

pub loop-index-init : goal.loop-index-init
loop-index-init c =
    let es = c.args.events.now in
    let next = c.args.next in
    let at = c.args.at in
    fed-drop next es at c.args.machine.now.state.devices c.requires.next.inside c.requires.next.before
    ∙ ap (λ (d : DeviceState). fed (drop next es) at d) (sym (c.copy-devices.ensures.copy ∙ c.devices.ensures))

pub loop-index-preserved : goal.loop-index-preserved
loop-index-preserved c =
    let es = c.args.events.now in
    let at = c.args.at in
    let index = c.loop-index.index in
    let e = c.index-events-index.result in
    let inside : index < c.args.end = c.loop-index-test.true in
    let place = count_at-is es index e (omega (arith, c.requires.end.inside, inside)) in
    let least : at ≤ count_at es index = c.requires.next.rest index c.loop-index.auto.index (omega (arith, c.requires.end.inside, inside)) in
    let most : count_at es index < at + 1 = c.requires.end.before index inside in
    let same = ap (λ (x : Event). x.count) c.index-events-index.is in
    let due : e.count ≡ at = omega (arith, place, least, most, same) in
    let took = c.take.ensures ∙ ap (λ (x : Event). taken_input x.input c.loop-index.devices) (sym c.index-events-index.is) in
    c.loop-index.invariant
    ∙ fed-here es index at e c.loop-index.devices (omega (arith, c.requires.end.inside, inside)) c.index-events-index.is due
    ∙ ap (λ (d : DeviceState). fed (drop (index + 1) es) at d) (sym took)

pub returns : goal.returns
returns c =
    let es = c.args.events.now in
    let at = c.args.at in
    let forward = index-order es c.args.next c.args.end at (at + 1) c.requires.next c.requires.end (omega arith) in
    let end : c.loop-index.index ≡ c.args.end = omega (arith, c.loop-index.auto.index-end forward, c.loop-index-test.false) in
    sym (c.loop-index.invariant ∙ ap (λ (n : ℕ). fed (drop n es) at c.loop-index.devices) end ∙ fed-rest es c.args.end at c.loop-index.devices c.requires.end)
