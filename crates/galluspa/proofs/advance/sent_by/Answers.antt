use Rattle.std.proofs.Common.{◌-◌, ◌≤◌, ◌++◌, ◌∙◌, ap, arith, length, length-append, refl, sym, List, ℕ}
use Rattle.std.proofs.lemmas.Result.{err_from_is_err_and}
use Rattle.risc_model.specs.Replay.{sent_of}
use Rattle.risc_model.proofs.RunLemmas.{run_of-none, sent_of-none}
use Rattle.oberon_session.proofs.Runs.{run-on, sent-on}
use Rattle.galluspa.proofs.advance.sent_by.Goals as goal

pub loop-at-init : goal.loop-at-init
loop-at-init c =
    let es = c.args.inputs.now in
    let from = c.args.from in
    let s = c.args.machine.now.state in
    record {
      begun = omega arith;
      within = c.requires.forward;
      state = sym (run_of-none es from (from - from) s (omega arith));
      output = c.new.ensures.items ∙ sym (sent_of-none es from (from - from) s (omega arith));
      held = rw c.new.ensures.items (omega arith);
      room = refl;
      base = refl;
    }

pub loop-at-preserved : goal.loop-at-preserved
loop-at-preserved c =
    let es = c.args.inputs.now in
    let from = c.args.from in
    let s = c.args.machine.now.state in
    let i = c.loop-at.invariant in
    let piece = c.in_ok-at.ensures in
    let on : c.loop-at.at ≤ c.in_ok-at.at = omega (arith, piece.further.0) in
    let more : List ℕ = sent_of es c.loop-at.at (c.in_ok-at.at - c.loop-at.at) c.loop-at.machine.state in
    record {
      begun = omega (arith, i.begun, on);
      within = piece.further.1;
      state = piece.state ∙ run-on es from c.loop-at.at c.in_ok-at.at s i.begun on c.loop-at.machine.state i.state;
      output = piece.sent ∙ ap (λ (sent : List ℕ). sent ++ more) i.output ∙ sent-on es from c.loop-at.at c.in_ok-at.at s i.begun on c.loop-at.machine.state i.state;
      held = piece.held;
      room = piece.room ∙ i.room;
      base = piece.kept ∙ i.base;
    }

pub returns-in_err-at-clause-no_room : goal.returns-in_err-at-clause-no_room
returns-in_err-at-clause-no_room c =
    let from-err = err_from_is_err_and c.from_residual.result c.from_residual.ensures.1 in
    let es = c.args.inputs.now in
    let i = c.loop-at.invariant in
    let whole = sent-on es c.args.from c.loop-at.at c.args.to c.args.machine.now.state i.begun (omega (arith, c.loop-at-test.true)) c.loop-at.machine.state i.state in
    let many = ap length (ap (λ (sent : List ℕ). sent ++ sent_of es c.loop-at.at (c.args.to - c.loop-at.at) c.loop-at.machine.state) i.output ∙ whole) in
    rw from-err.1 (λ room.
    let over = c.in_err-at.ensures.no_room (sym from-err.2 ∙ room) in
    omega (arith, over, many, i.room, length-append c.loop-at.output.bytes.items (sent_of es c.loop-at.at (c.args.to - c.loop-at.at) c.loop-at.machine.state)))
