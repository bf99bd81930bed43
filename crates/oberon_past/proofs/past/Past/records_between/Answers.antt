use Rattle.std.proofs.Common.{ℕ, List, ap, subst}
use Rattle.risc_model.specs.declared.event.Event.{Event}
use Rattle.risc_model.specs.MachineState.{State}
use Rattle.oberon_past.proofs.Keyframes.{if-ok}
use Rattle.oberon_past.proofs.Traces.{records-within}
use Rattle.oberon_past.specs.Past.{PastParts}
use Rattle.oberon_past.specs.Run.{Run}
use Rattle.oberon_past.specs.Trace.{AreRecords}
use Rattle.oberon_past.specs.declared.traced.Records.{Records}
use Rattle.oberon_past.proofs.past.Past.records_between.Goals as goal

pub returns-clause-records : goal.returns-clause-records
returns-clause-records c =
    let run : Run = c.args.self.now.run in
    let from : ℕ = c.args.from in
    let s : State = c.in_ok-machine.machine.state in
    let inputs = ap (λ (p : PastParts). p.run.inputs) c.self.view_is in
    if-ok c.record_steps.result
    (λ (records : Records) part.
    records-within run from s records c.requires.start c.in_ok-machine.ensures
    (subst (λ (es : List Event). AreRecords (record { start = from; first = s; inputs = es }) from records) inputs part)) c.record_steps.ensures.records
