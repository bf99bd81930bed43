use Rattle.std.proofs.Common.{◌≢◌, arith}
use Rattle.std.proofs.lemmas.Result.{IfOk-weaker}
use Rattle.oberon_format.specs.declared.fault.Fault.{Fault}
use Rattle.oberon_check.specs.Versions.{TextIn}
use Rattle.oberon_check.proofs.InVersions.{fault-as-line}
use Rattle.oberon_answers.proofs.ReadLemmas.{fault-answer, verdict-answer}
use Rattle.oberon_answers.proofs.checking.check_in.Goals as goal

pub returns-in-Ok-clause-line : goal.returns-in-Ok-clause-line
returns-in-Ok-clause-line c =
    IfOk-weaker c.answer_of.result _ _ (λ answer is. verdict-answer c.args.versions c.args.bytes.now c.in-Ok.r c.in-Ok.ensures answer.bytes.items answer.status is)
    c.answer_of.ensures

pub returns-in-Ok-clause-short : goal.returns-in-Ok-clause-short
returns-in-Ok-clause-short c = IfOk-weaker c.answer_of.result _ _ (λ answer is. is.short) c.answer_of.ensures

pub returns-in-Err-clause-line : goal.returns-in-Err-clause-line
returns-in-Err-clause-line c =
    let other : c.in-Err.fault ≢ Fault.Memory = search arith in
    IfOk-weaker c.refused.result _ _ (λ answer is.
    fault-as-line c.args.versions c.args.bytes.now answer.bytes.items answer.status
    (fault-answer c.args.versions c.args.bytes.now (TextIn c.args.versions c.args.bytes.now) c.in-Err.fault c.in-Err.ensures other answer.bytes.items answer.status is)) c.refused.ensures

pub returns-in-Err-clause-short : goal.returns-in-Err-clause-short
returns-in-Err-clause-short c = IfOk-weaker c.refused.result _ _ (λ answer is. is.short) c.refused.ensures
