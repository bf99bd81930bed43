use Rattle.std.proofs.Common.{◌≡◌, ◌<◌, ◌∙◌, ℕ, List, ap, arith, length, map, subst, sym}
use Rattle.std.proofs.lemmas.Result.{IfErr-weaker, IfOk-weaker, err_from_is_err_and}
use Rattle.std.specs.Prelude.{Result, Ok, Err, OnOk}
use Rattle.risc_model.specs.declared.event.Event.{Event}
use Rattle.oberon_format.specs.CheckpointParts.{checkpoint_parts}
use Rattle.oberon_format.specs.Defined.{IsTrueAt}
use Rattle.oberon_format.specs.Recording.{IsLawfulWithDisk, parts_of, RecordingParts}
use Rattle.oberon_session.proofs.Whole.{made, recording-of, truth-of}
use Rattle.oberon_session.specs.Recorded.{last_of, recording_of}
use Rattle.oberon_session.specs.Stored.{stored_view}
use Rattle.oberon_format.specs.Text.{IsPlain}
use Rattle.oberon_session.proofs.Plain.{plain-recording}
use Rattle.oberon_session.proofs.recorder.make_recording.Goals as goal

pub returns-clause-recording : goal.returns-clause-recording
returns-clause-recording c =
    let s = c.args.session.now in
    let r = c.loop-k.recorder in
    let cs = map checkpoint_parts r.checkpoints.items in
    let all : c.loop-k.k ≡ last_of s = omega (arith, ap length c.counts-k-end.ensures.counts) in
    IfOk-weaker c.finish.result (λ (x : RecordingParts). x ≡ parts_of r.stored.pool c.inputs.result.now r.checkpoints.items) (λ (x : RecordingParts). x ≡ recording_of s)
    (λ x is. is ∙ recording-of s (stored_view r.stored) cs r.sent c.loop-k.k all c.loop-k.invariant c.inputs.result.now c.inputs.ensures.inputs) c.finish.ensures.recording

so-on-ok : {T E P : Type 0} (r : Result T E) → P → OnOk r P
so-on-ok (Ok x) p = p
so-on-ok (Err e) p = tt

pub returns-clause-made : goal.returns-clause-made
returns-clause-made c =
    let r = c.loop-k.recorder in
    let all : c.loop-k.k ≡ last_of c.args.session.now = omega (arith, ap length c.counts-k-end.ensures.counts) in
    so-on-ok c.finish.result
    (made c.args.session.now (stored_view r.stored) (map checkpoint_parts r.checkpoints.items) r.sent c.loop-k.k all c.loop-k.invariant)

pub returns-clause-truth : goal.returns-clause-truth
returns-clause-truth c =
    let s = c.args.session.now in
    let r = c.loop-k.recorder in
    let cs = map checkpoint_parts r.checkpoints.items in
    let all : c.loop-k.k ≡ last_of s = omega (arith, ap length c.counts-k-end.ensures.counts) in
    IfOk-weaker c.finish.result (λ (x : RecordingParts). x ≡ parts_of r.stored.pool c.inputs.result.now r.checkpoints.items)
    (λ (x : RecordingParts). (k : ℕ) → k < length x.checkpoints → IsTrueAt x k)
    (λ x is. truth-of s (stored_view r.stored) cs r.sent c.loop-k.k all c.loop-k.invariant x
    (is ∙ recording-of s (stored_view r.stored) cs r.sent c.loop-k.k all c.loop-k.invariant c.inputs.result.now c.inputs.ensures.inputs)) c.finish.ensures.recording

pub loop-k-init : goal.loop-k-init
loop-k-init c = c.in_ok-recorder.ensures.recorded

pub returns-in_err-recorder-clause-refused : goal.returns-in_err-recorder-clause-refused
returns-in_err-recorder-clause-refused c =
    let from = err_from_is_err_and c.from_residual.result c.from_residual.ensures.1 in
    rw (from.1, from.2) (λ no. absurd (no c.in_err-recorder.ensures.memory))

pub record_next-requires-clause-recorded : goal.record_next-requires-clause-recorded
record_next-requires-clause-recorded c = c.loop-k.invariant

pub returns-in_err-record_next-clause-refused : goal.returns-in_err-record_next-clause-refused
returns-in_err-record_next-clause-refused c =
    let from = err_from_is_err_and c.from_residual-in_err-record_next.result c.from_residual-in_err-record_next.ensures.1 in
    rw (from.1, from.2) c.in_err-record_next.ensures.refused

pub loop-k-preserved : goal.loop-k-preserved
loop-k-preserved c = c.in_ok-record_next.ensures.recorded

pub finish-requires : goal.finish-requires
finish-requires c =
    let r = c.loop-k.recorder in
    subst (λ (es : List Event). IsLawfulWithDisk (parts_of r.stored.pool es r.checkpoints.items)) (sym c.inputs.ensures.inputs) c.loop-k.invariant.lawful

pub returns-clause-refused : goal.returns-clause-refused
returns-clause-refused c = IfErr-weaker c.finish.result _ _ (λ fault memory no. absurd (no memory)) c.finish.ensures.memory

pub returns-clause-plain : goal.returns-clause-plain
returns-clause-plain c = λ plain.
    let s = c.args.session.now in
    let r = c.loop-k.recorder in
    let cs = map checkpoint_parts r.checkpoints.items in
    let all : c.loop-k.k ≡ last_of s = omega (arith, ap length c.counts-k-end.ensures.counts) in
    IfOk-weaker c.finish.result (λ (x : RecordingParts). x ≡ parts_of r.stored.pool c.inputs.result.now r.checkpoints.items) IsPlain
    (λ x is. subst IsPlain (sym (is ∙ recording-of s (stored_view r.stored) cs r.sent c.loop-k.k all c.loop-k.invariant c.inputs.result.now c.inputs.ensures.inputs))
    (plain-recording s plain)) c.finish.ensures.recording
