use Rattle.oberon_format.proofs.Common.{checkpoints_bytes, ◌++◌, ◌≡◌}
use Rattle.oberon_format.proofs.writing.push_checkpoints.Given as goal

abbrev pub invariant-loop-k : goal.invariant-loop-k
invariant-loop-k l = l.out.items ≡ l.fn.out.items ++ checkpoints_bytes l.version l.r.checkpoints l.k
