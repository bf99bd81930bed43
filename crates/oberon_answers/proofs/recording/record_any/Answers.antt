use Rattle.std.proofs.Common.{arith, inl, inr}
use Rattle.std.proofs.lemmas.Result.{IfOk-weaker}
use Rattle.oberon_answers.proofs.ReadLemmas.{no-session}
use Rattle.oberon_answers.proofs.recording.record_any.Goals as goal

pub returns-in-Ok : goal.returns-in-Ok
returns-in-Ok c =
    IfOk-weaker c.record_of.result _ _ (λ answer is. inl (record { session = c.in-Ok.session; read = c.in-Ok.ensures.ok; record_is = is })) c.record_of.ensures

pub returns-in-Err : goal.returns-in-Err
returns-in-Err c =
    IfOk-weaker c.record_in.result _ _ (λ answer is. inr (no-session c.args.bytes.now c.in-Err.field-0 (search arith) c.in-Err.ensures.err, is)) c.record_in.ensures
