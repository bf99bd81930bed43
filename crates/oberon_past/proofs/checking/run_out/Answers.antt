use Rattle.std.proofs.Common.{◌≡◌, ◌∙◌, ◌-◌, ℕ, List, ap}
use Rattle.risc_model.specs.declared.event.Event.{Event}
use Rattle.risc_model.specs.Replay.{run_of}
use Rattle.oberon_past.proofs.Checks.{others-stay, passed-come, state-on}
use Rattle.oberon_past.proofs.checking.run_out.Goals as goal

pub returns-clause-checked : goal.returns-clause-checked
returns-clause-checked c = λ at.
    let r = c.args.recording.now in
    let from : ℕ = c.args.at.count in
    let to : ℕ = c.args.to in
    let s = c.args.machine.now.state in
    let state = c.in-Ok.ensures.state
    ∙ ap (λ (es : List Event). run_of es from (to - from) s) c.inputs.ensures.inputs
    ∙ state-on r from to c.requires.range.0 s at.state in
    c.passed.ensures.checked (record {
      state = state;
      truth = record { before = at.truth.before; sent = others-stay r c.args.at.checkpoint from to c.args.at.sent c.requires.others at.truth.sent };
    })

pub returns-clause-come : goal.returns-clause-come
returns-clause-come c = λ at.
    let r = c.args.recording.now in
    let from : ℕ = c.args.at.count in
    let to : ℕ = c.args.to in
    let s = c.args.machine.now.state in
    let state = c.in-Ok.ensures.state
    ∙ ap (λ (es : List Event). run_of es from (to - from) s) c.inputs.ensures.inputs
    ∙ state-on r from to c.requires.range.0 s at.state in
    passed-come r _ _ state c.passed.result c.passed.ensures.passed
