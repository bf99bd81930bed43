use Rattle.oberon_format.proofs.Common.{length, output_of, take, ◌≡◌}
use Rattle.oberon_format.proofs.recording.Recording.output_len.Given as goal

abbrev pub invariant-loop-k : goal.invariant-loop-k
invariant-loop-k l = l.len ≡ length (output_of (take l.k l.self.checkpoints))
