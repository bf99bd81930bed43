use Rattle.std.proofs.Common.{◌≢◌, arith}
use Rattle.std.proofs.lemmas.Result.{IfOk-weaker}
use Rattle.oberon_format.specs.Text.{AreBytes}
use Rattle.oberon_format.specs.declared.fault.Fault.{Fault}
use Rattle.oberon_check.specs.Versions.{TextIn}
use Rattle.oberon_check.proofs.InVersions.{all_bytes, first-fault, good-answer, one_in}
use Rattle.oberon_shards.proofs.Stretches.{between, faulty_shard, stretch_shard}
use Rattle.oberon_shards.proofs.sharding.check_shard_in.Goals as goal

pub returns-in-Ok : goal.returns-in-Ok
returns-in-Ok c =
    let are : AreBytes c.args.bytes.now = all_bytes c.args.bytes.now c.type_inv.bytes in
    let text = good-answer c.args.versions c.args.bytes.now (TextIn c.args.versions c.args.bytes.now) c.in-Ok.r c.in-Ok.ensures in
    record {
      shard = IfOk-weaker c.stretch.result _ _ (λ s is. stretch_shard c.args.versions c.args.bytes.now c.digest-digest.result c.in-Ok.r are c.digest-digest.ensures text
          c.border-from.result c.border-end.result s is) c.stretch.ensures;
      indexed = IfOk-weaker c.stretch.result _ _ (λ s is. λ read r is_text. between c.args.versions (one_in c.one_recording_with_disk_law.ensures c.args.versions) c.args.bytes.now c.in-Ok.r text
          c.args.index c.args.of c.border-from.result c.border-end.result c.digest-digest.result c.border-from.ensures c.border-end.ensures s is read r is_text)
          c.stretch.ensures;
    }

pub returns-in-Err : goal.returns-in-Err
returns-in-Err c =
    let are : AreBytes c.args.bytes.now = all_bytes c.args.bytes.now c.type_inv.bytes in
    let other : c.in-Err.fault ≢ Fault.Memory = search arith in
    let first = first-fault c.args.versions c.args.bytes.now (TextIn c.args.versions c.args.bytes.now) c.in-Err.fault c.in-Err.ensures other in record {
      shard = IfOk-weaker c.faulty.result _ _ (λ s is. faulty_shard c.args.versions c.args.bytes.now c.digest-digest.result c.in-Err.fault are c.digest-digest.ensures first s is) c.faulty.ensures;
      indexed = IfOk-weaker c.faulty.result _ _ (λ s is. λ read r text. absurd (read is.finding_is)) c.faulty.ensures;
    }
