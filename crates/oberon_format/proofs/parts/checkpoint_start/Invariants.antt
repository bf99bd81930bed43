use Rattle.oberon_format.proofs.Common.{parts_of, start_in, ◌≡◌}
use Rattle.oberon_format.proofs.parts.checkpoint_start.Given as goal

-- the offset is that of the next checkpoint
abbrev pub invariant-loop-i : goal.invariant-loop-i
invariant-loop-i l = l.offset ≡ start_in l.version (parts_of l.pool l.inputs l.checkpoints) l.i
