use Rattle.oberon_format.proofs.Common.{pages_at, ◌≡◌}
use Rattle.oberon_format.proofs.reading.pool_of.Given as goal

abbrev pub invariant-loop-p : goal.invariant-loop-p
invariant-loop-p l = l.pool ≡ pages_at l.bytes l.p
