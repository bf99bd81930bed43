use Rattle.std.proofs.Common.{◌≡◌, ◌⊎◌, ◌+◌, ◌<◌}
use Rattle.oberon_past.specs.Check.{IsProgress}
use Rattle.oberon_past.specs.inner.Checking.{IsAt}
use Rattle.oberon_past.proofs.checking.check_on.Given as goal

abbrev pub invariant-loop-left : goal.invariant-loop-left
invariant-loop-left l = record {
  progress : IsProgress l.recording l.at;
  far : ((l.left ≡ l.fn.budget.count) × (l.at ≡ l.fn.from)) ⊎ (l.fn.from.checkpoint + l.fn.from.count < l.at.checkpoint + l.at.count);
  come : IsAt l.recording l.fn.from l.fn.machine.state → IsAt l.recording l.at l.machine.state;
}

abbrev pub decreases-loop-left : goal.decreases-loop-left
decreases-loop-left l = l.left
