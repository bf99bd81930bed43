use Rattle.std.proofs.Common.{◌≡◌, ◌-◌, ◌≤◌, ◌++◌, ◌∙◌, ap, arith, length, refl, sym, List, ℕ}
use Rattle.risc_model.specs.Replay.{sent_of}
use Rattle.risc_model.proofs.RunLemmas.{run_of-none, sent_of-none}
use Rattle.oberon_session.proofs.Runs.{run-on, sent-grows, sent-on}
use Rattle.oberon_session.specs.declared.record_fault.RecordFault.TheVariants as fault
use Rattle.oberon_session.proofs.running.run_in_pieces.Goals as goal

pub loop-at-init : goal.loop-at-init
loop-at-init c =
    let es = c.args.inputs.now in
    let from = c.args.from in
    let s = c.args.machine.now.state in
    record {
      begun = omega arith;
      within = c.requires;
      state = sym (run_of-none es from (from - from) s (omega arith));
      output = c.new-sent.ensures.items ∙ sym (sent_of-none es from (from - from) s (omega arith));
      room = rw c.new-sent.ensures.items (omega arith);
      base = refl;
    }

pub returns-then-len-room-clause-refused : goal.returns-then-len-room-clause-refused
returns-then-len-room-clause-refused c =
    let es = c.args.inputs.now in
    let from = c.args.from in
    let s = c.args.machine.now.state in
    let i = c.loop-at.invariant in
    let on : c.loop-at.at ≤ c.piece_end-end.result = omega arith in
    let further : from ≤ c.piece_end-end.result = omega arith in
    let more : List ℕ = sent_of es c.loop-at.at (c.piece_end-end.result - c.loop-at.at) c.loop-at.machine.state in
    let output = c.in-Ok.ensures.sent ∙ ap (λ (sent : List ℕ). sent ++ more) i.output ∙ sent-on es from c.loop-at.at c.piece_end-end.result s i.begun on c.loop-at.machine.state i.state in
    let many = ap (λ (sent : List ℕ). length sent) output in
    λ _. (refl, omega (arith, many, sent-grows es from c.piece_end-end.result c.args.to s further c.piece_end-end.ensures.within))

output-not-memory : fault.Output ≡ fault.Memory → ⊥
output-not-memory same = cc

pub returns-then-len-room-clause-memory : goal.returns-then-len-room-clause-memory
returns-then-len-room-clause-memory c = λ same. absurd (output-not-memory same)

pub loop-at-preserved : goal.loop-at-preserved
loop-at-preserved c =
    let es = c.args.inputs.now in
    let from = c.args.from in
    let s = c.args.machine.now.state in
    let i = c.loop-at.invariant in
    let on : c.loop-at.at ≤ c.piece_end-end.result = omega arith in
    let more : List ℕ = sent_of es c.loop-at.at (c.piece_end-end.result - c.loop-at.at) c.loop-at.machine.state in
    record {
      begun = omega arith;
      within = c.piece_end-end.ensures.within;
      state = c.in-Ok.ensures.state ∙ run-on es from c.loop-at.at c.piece_end-end.result s i.begun on c.loop-at.machine.state i.state;
      output = c.in-Ok.ensures.sent ∙ ap (λ (sent : List ℕ). sent ++ more) i.output ∙ sent-on es from c.loop-at.at c.piece_end-end.result s i.begun on c.loop-at.machine.state i.state;
      room = omega arith;
      base = c.in-Ok.ensures.kept.base ∙ i.base;
    }
