use Rattle.std.proofs.Common.{◌≢◌, Global, Vec, ℕ, arith, inr}
use Rattle.std.proofs.lemmas.Result.{IfOk-weaker}
use Rattle.oberon_format.specs.declared.fault.Fault.{Fault}
use Rattle.oberon_check.specs.Versions.{IsMigratedIn}
use Rattle.oberon_answers.proofs.ReadLemmas.{fault-answer}
use Rattle.oberon_answers.proofs.migration.migrate_in.Goals as goal

pub returns-in-Err : goal.returns-in-Err
returns-in-Err c =
    let other : c.in-Err.fault ≢ Fault.Memory = search arith in
    IfOk-weaker c.refused.result _ _ (λ answer is.
    inr (fault-answer c.args.versions c.args.bytes.now (λ (file : Vec ℕ Global). IsMigratedIn c.args.versions c.args.bytes.now file.items) c.in-Err.fault c.in-Err.ensures other answer.bytes.items answer.status is)) c.refused.ensures
