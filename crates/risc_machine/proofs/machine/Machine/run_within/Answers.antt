use Rattle.std.proofs.Common.{◌-◌, ◌++◌, ◌∙◌, List, refl, ap}
use Rattle.std.proofs.lemmas.Result.{IfErr-weaker, on_ok_weaker}
use Rattle.risc_model.specs.declared.event.Event.{Event}
use Rattle.risc_model.specs.Replay.{sent_of}
use Rattle.risc_machine.proofs.SinkLemmas.{Taken, either, first, taken}
use Rattle.risc_machine.proofs.machine.Machine.run_within.Goals as goal

pub returns-clause-sent : goal.returns-clause-sent
returns-clause-sent c =
    let old = c.args.output.now.bytes.items in
    let n = c.args.to - c.args.from in
    let bytes = ap (λ (es : List Event). old ++ sent_of es c.args.from n c.args.self.now.state) c.events.ensures.events in
    on_ok_weaker c.run_into.result (λ took. (took old (refl, c.requires.room)).0 ∙ bytes) c.run_into.ensures.ok_sent

pub returns-clause-fault_sent : goal.returns-clause-fault_sent
returns-clause-fault_sent c =
    let old = c.args.output.now.bytes.items in
    IfErr-weaker c.run_into.result _ _ (λ fault took.
    let bytes = ap (λ (es : List Event). old ++ sent_of es c.args.from (fault.at - c.args.from) c.args.self.now.state) c.events.ensures.events in
    (took old (refl, c.requires.room)).0 ∙ bytes) c.run_into.ensures.err_sent

-- the output has room for its bytes, whether or not the run came to its end
pub returns-clause-held : goal.returns-clause-held
returns-clause-held c =
    let taken : Taken c.run_into.new.sent = either c.run_into.result
    (on_ok_weaker c.run_into.result (λ took. taken c.run_into.new.sent _ (took _ (refl, c.requires.room))) c.run_into.ensures.ok_sent)
    (IfErr-weaker c.run_into.result _ _ (λ _ took. taken c.run_into.new.sent _ (took _ (refl, c.requires.room))) c.run_into.ensures.err_sent) in
    taken

pub returns-clause-room : goal.returns-clause-room
returns-clause-room c = first c.run_into.ensures.sink
