use Rattle.std.proofs.Common.{◌≡◌, length}
use Rattle.oberon_past.proofs.Counting.{AreKept, AreSums}
use Rattle.oberon_past.proofs.profiling.add.Given as goal

abbrev pub invariant-loop-index : goal.invariant-loop-index
invariant-loop-index l = record {
  count : length l.counts ≡ length l.fn.counts;
  sums : AreSums l.index l.fn.counts l.more l.counts;
  rest : AreKept l.index l.fn.counts l.counts;
}
