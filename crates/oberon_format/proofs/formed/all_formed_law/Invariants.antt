use Rattle.oberon_format.proofs.Common.{Checkpoint, checkpoint_parts, get_or, IsFormed, length, ℕ, ◌<◌}
use Rattle.oberon_format.proofs.formed.all_formed_law.Given as goal

abbrev pub invariant-loop-checkpoint : goal.invariant-loop-checkpoint
invariant-loop-checkpoint l = (k : ℕ) (d : Checkpoint) → k < l.checkpoint-index → k < length l.checkpoints → IsFormed (checkpoint_parts (get_or l.checkpoints k d))
