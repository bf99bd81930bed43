use Rattle.std.proofs.Common.{◌≢◌, arith, inr}
use Rattle.std.proofs.lemmas.Result.{IfOk-weaker}
use Rattle.oberon_format.specs.declared.fault.Fault.{Fault}
use Rattle.oberon_check.specs.Versions.{TextIn}
use Rattle.oberon_answers.proofs.ReadLemmas.{fault-answer}
use Rattle.oberon_answers.proofs.display.screen_in.Goals as goal

pub returns-in-Err : goal.returns-in-Err
returns-in-Err c =
    let v = c.args.versions in
    let bytes = c.args.bytes.now in
    let other : c.in-Err.fault ≢ Fault.Memory = search arith in
    IfOk-weaker c.refused.result _ _ (λ answer is.
    inr (fault-answer v bytes (TextIn v bytes) c.in-Err.fault c.in-Err.ensures other answer.bytes.items answer.status is)) c.refused.ensures
