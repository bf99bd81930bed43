use Rattle.std.proofs.Common.{◌≡◌, ◌+◌, ◌-◌, ◌++◌, ◌∙◌, ◌∷◌, [], ℕ, List, Option, ap, arith, length, length-append, sym}
use Rattle.std.proofs.lemmas.List.{append-nil}
use Rattle.std.specs.Option.{option_to_list}
use Rattle.risc_model.specs.Exec.{exec}
use Rattle.risc_model.specs.Replay.{sent_of}
use Rattle.oberon_session.proofs.Runs.{sent-grows}
use Rattle.galluspa.proofs.AdvanceLemmas.{run-step, sent-step}
use Rattle.galluspa.proofs.advance.run_on.Goals as goal

pub returns-in-Ok-None-clause-state : goal.returns-in-Ok-None-clause-state
returns-in-Ok-None-clause-state c =
    let a = c.args in
    run-step a.inputs.now a.at c.in-Err.fault.at a.machine.now.state c.step.new.self.state c.in-Ok-None.field-0
    c.in-Err.ensures.fault_range.0 (ap exec (sym c.in-Err.ensures.fault_state) ∙ c.in-Ok-None.ensures.exec)

pub returns-in-Ok-None-clause-sent : goal.returns-in-Ok-None-clause-sent
returns-in-Ok-None-clause-sent c =
    let a = c.args in
    let before : List ℕ = sent_of a.inputs.now a.at (c.in-Err.fault.at - a.at) a.machine.now.state in
    let step = sent-step a.inputs.now a.at c.in-Err.fault.at a.machine.now.state c.step.new.self.state c.in-Ok-None.field-0
    c.in-Err.ensures.fault_range.0 (ap exec (sym c.in-Err.ensures.fault_state) ∙ c.in-Ok-None.ensures.exec) in
    let none : before ≡ before ++ option_to_list c.in-Ok-None.field-0 =
    sym (append-nil before) ∙ ap (λ (o : Option ℕ). before ++ option_to_list o) (sym c.in-Ok-None.field-0-is) in
    c.in-Err.ensures.fault_sent ∙ ap (λ (l : List ℕ). a.output.now.bytes.items ++ l) (none ∙ step)

pub returns-in-Ok-Some-clause-no_room : goal.returns-in-Ok-Some-clause-no_room
returns-in-Ok-Some-clause-no_room c =
    let a = c.args in
    let at = c.in-Err.fault.at in
    let range = c.in-Err.ensures.fault_range in
    let before : List ℕ = sent_of a.inputs.now a.at (at - a.at) a.machine.now.state in
    let step = ap length (sent-step a.inputs.now a.at at a.machine.now.state c.step.new.self.state c.in-Ok-Some.field-0
    range.0 (ap exec (sym c.in-Err.ensures.fault_state) ∙ c.in-Ok-Some.ensures.exec)) in
    let one : length (before ++ option_to_list c.in-Ok-Some.field-0) ≡ length (before ++ c.in-Ok-Some.field-0-0 ∷ []) =
    ap (λ (o : Option ℕ). length (before ++ option_to_list o)) c.in-Ok-Some.field-0-is in
    let grows = sent-grows a.inputs.now a.at (at + 1) a.to a.machine.now.state (omega (arith, range.0)) (omega (arith, range.1)) in
    let full = ap length c.in-Err.ensures.fault_sent in
    λ _. omega (
      arith,
      step,
      one,
      grows,
      full,
      c.len.ensures,
      c.if-len-output.false,
      c.in-Err.ensures.room,
      length-append a.output.now.bytes.items before,
      length-append before (c.in-Ok-Some.field-0-0 ∷ []),
    )
