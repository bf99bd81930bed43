use Rattle.std.proofs.Common.{ℕ, ◌<◌}
use Rattle.oberon_check.specs.inner.Tally.{IsMarked}
use Rattle.oberon_check.proofs.collector.first_unmarked.Given as goal

abbrev pub invariant-loop-segment : goal.invariant-loop-segment
invariant-loop-segment l = (s : ℕ) → s < l.segment → IsMarked l.seen s
