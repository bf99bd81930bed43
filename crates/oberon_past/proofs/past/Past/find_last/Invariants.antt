use Rattle.std.proofs.Common.{◌≡◌, ◌⊎◌, ◌<◌, ◌≤◌}
use Rattle.risc_search.specs.Search.{NoneIn}
use Rattle.oberon_past.specs.Run.{state_at}
use Rattle.oberon_past.proofs.past.Past.find_last.Given as goal

abbrev pub invariant-loop-at : goal.invariant-loop-at
invariant-loop-at l = record {
  inside : (l.from ≤ l.at) × (l.at ≤ l.to);
  none : NoneIn l.conditions l.initial.self.run.inputs l.from (state_at l.initial.self.run l.from) l.at l.to;
  more : (l.left ≡ l.fn.budget.count) ⊎ (l.at < l.to);
}

abbrev pub decreases-loop-at : goal.decreases-loop-at
decreases-loop-at l = l.at
