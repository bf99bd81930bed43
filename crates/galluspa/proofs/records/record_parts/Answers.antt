use Rattle.std.proofs.Common.{◌≡◌, ◌∙◌, length, subst}
use Rattle.std.proofs.lemmas.Result.{IfErr-weaker}
use Rattle.risc_model.specs.MachineState.{State}
use Rattle.galluspa.specs.Raw.{state_of}
use Rattle.galluspa.specs.Records.{AreRecorded}
use Rattle.galluspa.proofs.RecordedLemmas.{all-first}
use Rattle.galluspa.proofs.records.record_parts.Goals as goal

-- memory ran out when the machine was closed: all records are written
pub returns-clause-first : goal.returns-clause-first
returns-clause-first c =
    let a = c.args in
    let records = c.record_machine.new.records in
    let start : State = state_of a.state.now a.words.now in
    let cpu = c.requires.cpu in
    let devices = c.requires.devices in
    let words = c.in_ok-pool.ensures.words in
    let begun : c.in_ok-machine.machine.state ≡ start = c.in_ok-machine.ensures.state ∙ (λ i. record { cpu = cpu i; devices = devices i; words = words i }) in
    let P : State → Type 0 = λ (s : State). AreRecorded (length records) records a.inputs.now a.state.now.count s in
    IfErr-weaker c.move_to.result _ _ (λ e kept.
    all-first a.inputs.now a.state.now.count start a.records.now records c.in_ok-record_machine.ensures.count (subst P begun c.in_ok-record_machine.ensures.each)) c.move_to.ensures.unchanged
