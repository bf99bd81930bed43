use Rattle.std.proofs.Common.{length, ◌≡◌, ◌≤◌, ◌-◌}
use Rattle.risc_machine.specs.Allocation.{Keeps}
use Rattle.risc_model.specs.Replay.{run_of}
use Rattle.risc_search.specs.Search.{NoneIn}
use Rattle.risc_search.specs.inner.Due.{IsQuiet}
use Rattle.risc_search.proofs.search.Search.next.Given as goal

abbrev pub invariant-loop-at : goal.invariant-loop-at
invariant-loop-at l = record {
  reached : l.fn.progress.at ≤ l.at;
  later : l.at ≤ l.due;
  inside : l.due ≤ l.to;
  quiet : IsQuiet l.self.inputs.now l.at l.due;
  state : l.machine.state ≡ run_of l.self.inputs.now l.fn.progress.at (l.at - l.fn.progress.at) l.fn.machine.state;
  none : NoneIn l.self.conditions.now l.self.inputs.now l.fn.progress.at l.fn.machine.state l.fn.progress.at l.at;
  armed : length l.armed ≡ length l.fn.armed;
  kept : Keeps l.fn.machine l.machine;
}

abbrev pub decreases-loop-at : goal.decreases-loop-at
decreases-loop-at l = l.to - l.at
