use Rattle.oberon_format.proofs.Common.{ap, arith, CheckpointParts, length, List, no_checkpoint, table_before, ◌∙◌}
use Rattle.oberon_format.proofs.WriteLemmas.{checkpoint_next, sent_le}
use Rattle.oberon_format.proofs.writing.push_checkpoints.Goals as goal

pub push_checkpoint-requires-clause-sent : goal.push_checkpoint-requires-clause-sent
push_checkpoint-requires-clause-sent c = let own = ap (λ (x : CheckpointParts). length x.sent) c.checkpoint.ensures.checkpoint in
    omega (arith, sent_le c.args.r.now.checkpoints c.loop-k.k no_checkpoint (omega arith), c.checkpoint.ensures.lawful.output)

pub loop-k-preserved : goal.loop-k-preserved
loop-k-preserved c =
    let before = c.table_before.ensures ∙ ap (λ (cs : List CheckpointParts). table_before cs c.loop-k.k) c.checkpoints.ensures.checkpoints in
    checkpoint_next c.args.version c.args.r.now.checkpoints c.args.out.now.items c.loop-k.out.items _ _ c.loop-k.k _ c.loop-k.invariant before
    c.checkpoint.ensures.checkpoint c.in_ok-push_checkpoint.ensures
