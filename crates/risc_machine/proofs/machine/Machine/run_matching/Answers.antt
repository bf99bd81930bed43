use Rattle.std.proofs.Common.{◌≡◌, ◌-◌, List, [], sym, ap, ◌∙◌}
use Rattle.risc_model.specs.declared.event.Event.{Event}
use Rattle.risc_model.specs.Replay.{sent_of}
use Rattle.risc_machine.proofs.machine.Machine.run_matching.Goals as goal

pub returns-clause-same : goal.returns-clause-same
returns-clause-same c =
    let n = c.args.to - c.args.from in
    let m = c.in_ok-run_into.ensures.ok_sent [] c.new-matching.ensures.matched in
    let w = c.is_whole.ensures _ m in
    let e : c.run_into.new.sent.expected.now ≡ c.args.expected.now = c.in_ok-run_into.ensures.sink ∙ c.new-matching.ensures.expected in
    let bytes : sent_of c.events.result.now c.args.from n c.args.self.now.state ≡ sent_of c.args.inputs.now c.args.from n c.args.self.now.state =
    ap (λ (es : List Event). sent_of es c.args.from n c.args.self.now.state) c.events.ensures.events in
    (λ t. sym bytes ∙ w.0 t ∙ e, λ s. w.1 (bytes ∙ s ∙ sym e))
