use Rattle.std.proofs.Common.{◌-◌, length}
use Rattle.risc_search.specs.inner.Joined.{IsClauseOf}
use Rattle.risc_search.proofs.concerns.cheapest.Given as goal

abbrev pub invariant-loop-index : goal.invariant-loop-index
invariant-loop-index l = record {
  best : IsClauseOf l.conditions l.first l.best;
  here : IsClauseOf l.conditions l.first l.index;
}

abbrev pub decreases-loop-index : goal.decreases-loop-index
decreases-loop-index l = length l.conditions - l.index
