use Rattle.std.proofs.Common.{◌≡◌, ◌⊎◌, ◌<◌}
use Rattle.oberon_past.specs.Past.{IsLonger}
use Rattle.oberon_past.proofs.past.Past.approach.Given as goal

abbrev pub invariant-loop-alloc : goal.invariant-loop-alloc
invariant-loop-alloc l = record {
  longer : IsLonger l.initial.self l.self;
  more : (l.left ≡ l.fn.budget.count) ⊎ (l.initial.self.keyframes < l.self.keyframes);
}

abbrev pub decreases-loop-alloc : goal.decreases-loop-alloc
decreases-loop-alloc l = l.left
