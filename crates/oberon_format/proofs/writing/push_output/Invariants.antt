use Rattle.oberon_format.proofs.Common.{output_of, take, ◌++◌, ◌≡◌}
use Rattle.oberon_format.proofs.writing.push_output.Given as goal

abbrev pub invariant-loop-k : goal.invariant-loop-k
invariant-loop-k l = l.out.items ≡ l.fn.out.items ++ output_of (take l.k l.r.checkpoints)
