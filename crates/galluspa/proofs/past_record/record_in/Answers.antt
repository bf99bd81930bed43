use Rattle.std.proofs.Common.{◌∙◌, arith, subst, sym}
use Rattle.oberon_past.specs.Draft.{IsRecordingOf}
use Rattle.galluspa.specs.inner.Drafting.{IsUndrafted}
use Rattle.galluspa.proofs.DraftLemmas.{has-recorded, not-early, undrafted}
use Rattle.galluspa.proofs.past_record.record_in.Goals as goal

pub returns-in-Err-clause-refused : goal.returns-in-Err-clause-refused
returns-in-Err-clause-refused c =
    let a = c.args in
    let first = c.in_ok-draft.ensures in
    subst (IsUndrafted a.past.now a.text.now a.counts.now a.recorded a.budget) (sym c.refusal_of.ensures)
    (undrafted a.past.now a.text.now a.counts.now a.recorded a.budget (c.in_ok-steps.ensures.question, c.in_ok-steps.ensures.inside) first.valid
    c.in_ok-draft.draft first.first first.draft c.in-Err.fault c.in-Err.ensures.refused)

pub returns-in-Err-clause-unmoved : goal.returns-in-Err-clause-unmoved
returns-in-Err-clause-unmoved c =
    let a = c.args in
    let first = c.in_ok-draft.ensures in
    rw c.refusal_of.ensures
    (λ early. absurd (not-early a.past.now a.text.now a.counts.now a.recorded a.budget (c.in_ok-steps.ensures.question, c.in_ok-steps.ensures.inside)
    first.valid c.in_ok-draft.draft first.first first.draft c.in-Err.fault c.in-Err.ensures.refused early))

pub returns-in-Ok-write-clause-recorded : goal.returns-in-Ok-write-clause-recorded
returns-in-Ok-write-clause-recorded c =
    let a = c.args in
    let first = c.in_ok-draft.ensures in
    let made = c.in-Ok.ensures in
    has-recorded a.past.now.run a.text.now a.counts.now c.in-Ok-write.bytes.items a.recorded c.in-Ok.made.recorded c.in_ok-draft.draft.recording
    c.in-Ok.made.draft.recording first.first made.checkpoints (λ of_run. (made.truth (first.draft of_run)).recording)
    (record { plain = c.in-Ok-write.ensures.plain; others = c.in-Ok-write.ensures.others })
