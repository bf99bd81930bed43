use Rattle.std.proofs.Common.{◌<◌, ◌∙◌, ℕ, ap, inl, inr, length, refl, subst, sym}
use Rattle.std.proofs.lemmas.Option.{none-some}
use Rattle.std.proofs.lemmas.Result.{IfOk-weaker}
use Rattle.oberon_format.specs.Defined.{IsTrueAt}
use Rattle.oberon_format.specs.Recording.{RecordingParts}
use Rattle.oberon_format.specs.Text.{IsEncoding}
use Rattle.oberon_check.specs.Versions.{last_version}
use Rattle.oberon_check.proofs.Accepting.{accepted-text}
use Rattle.oberon_check.proofs.InVersions.{last_text}
use Rattle.oberon_session.specs.FaultNames.{record_fault_number}
use Rattle.oberon_session.specs.Recorded.{recording_of}
use Rattle.oberon_answers.proofs.recording.record_of.Goals as goal

pub returns-in_ok-bytes-in-Ok : goal.returns-in_ok-bytes-in-Ok
returns-in_ok-bytes-in-Ok c =
    let v = c.args.versions in
    let made = c.in-Ok.ensures in
    let bytes = c.in_ok-bytes-in-Ok.bytes.items in
    let r : RecordingParts = recording_of c.args.session.now in
    let file : IsEncoding (last_version v) bytes r = subst (λ (q : RecordingParts). IsEncoding (last_version v) bytes q) made.recording c.in_ok-bytes-in-Ok.ensures in
    let truth : (k : ℕ) → k < length r.checkpoints → IsTrueAt r k =
    subst (λ (q : RecordingParts). (k : ℕ) → k < length q.checkpoints → IsTrueAt q k) made.recording made.truth in
    inl (record { no_fault = made.made; output_is = file; accepted = accepted-text v r bytes (last_text v bytes r file) truth; status_is = refl })

pub returns-in-Err : goal.returns-in-Err
returns-in-Err c =
    IfOk-weaker c.refused_as.result _ _ (λ answer refusal.
    inr (record {
      fault = c.in-Err.fault;
      is_fault = c.in-Err.ensures.refused (λ memory.
          none-some refusal.known (sym (c.number.ensures ∙ ap record_fault_number memory) ∙ refusal.number_is));
      refusal = rw (sym c.number.ensures, sym c.name.ensures) refusal;
    })) c.refused_as.ensures
