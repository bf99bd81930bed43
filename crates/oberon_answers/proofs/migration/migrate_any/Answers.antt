use Rattle.std.proofs.Common.{◌≢◌, Global, Vec, ℕ, arith}
use Rattle.std.proofs.lemmas.Result.{IfOk-weaker}
use Rattle.oberon_format.specs.Migration.{IsMigrated}
use Rattle.oberon_format.specs.declared.fault.Fault.{Fault}
use Rattle.oberon_check.specs.declared.versions.Versions.TheVariants.{WithoutDisk}
use Rattle.oberon_check.proofs.InVersions.{all_bytes, first-fault}
use Rattle.oberon_answers.proofs.ReadLemmas.{any-disk}
use Rattle.oberon_answers.proofs.migration.migrate_any.Goals as goal

pub returns-in-Err : goal.returns-in-Err
returns-in-Err c =
    let bytes = c.args.bytes.now in
    let other : c.in-Err.field-0 ≢ Fault.Memory = search arith in
    let first = first-fault WithoutDisk bytes (λ (file : Vec ℕ Global). IsMigrated bytes file.items) c.in-Err.field-0 c.in-Err.ensures other in
    IfOk-weaker c.migrate_in.result _ _ (λ answer is.
    any-disk bytes (all_bytes bytes c.type_inv.bytes) c.in-Err.field-0 first answer.bytes.items answer.status is) c.migrate_in.ensures
