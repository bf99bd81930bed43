use Rattle.oberon_format.proofs.Common.{start_in, ◌≡◌}
use Rattle.oberon_format.proofs.writing.encoded_len.Given as goal

abbrev pub invariant-loop-k : goal.invariant-loop-k
invariant-loop-k l = l.len ≡ start_in l.version l.r l.k
