use Rattle.oberon_format.proofs.Common.{ap, arith, CheckpointParts, get_or, length, length-flat_map-take, no_checkpoint, ◌≡◌}
use Rattle.oberon_format.proofs.recording.Recording.output_len.Goals as goal

pub overflow_add-len : goal.overflow_add-len
overflow_add-len c =
    let cs = c.args.self.now.checkpoints in let k = c.loop-k.k in
    let below = length-flat_map-take (λ (x : CheckpointParts). x.sent) cs k no_checkpoint (omega arith) in
    let own : length c.checkpoint.result.now.sent.items ≡ length (get_or cs k no_checkpoint).sent = ap (λ (x : CheckpointParts). length x.sent) c.checkpoint.ensures.checkpoint in
    omega (arith, c.checkpoint.ensures.lawful.output)
