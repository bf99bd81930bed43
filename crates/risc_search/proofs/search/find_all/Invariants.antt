use Rattle.std.proofs.Common.{length, ◌≡◌, ◌≤◌, ◌-◌}
use Rattle.risc_machine.specs.Allocation.{Keeps}
use Rattle.risc_model.specs.Replay.{run_of}
use Rattle.risc_search.specs.declared.search.TheConstants.{MAX_CONDITIONS}
use Rattle.risc_search.specs.Hits.{AreHits, EndsAt}
use Rattle.risc_search.specs.inner.Progress.{IsInRange}
use Rattle.risc_search.proofs.search.find_all.Given as goal

abbrev pub invariant-loop-progress : goal.invariant-loop-progress
invariant-loop-progress l = record {
  reached : l.from ≤ l.progress.at;
  range : IsInRange l.inputs l.to l.progress;
  state : l.machine.state ≡ run_of l.inputs l.from (l.progress.at - l.from) l.fn.machine.state;
  hits : AreHits l.conditions l.inputs l.from l.fn.machine.state l.from l.progress.at l.list.items;
  fits : length l.list.items ≤ l.room;
  full : length l.list.items ≡ l.room → EndsAt l.list.items l.progress.at;
  armed : length l.armed ≡ MAX_CONDITIONS;
  kept : Keeps l.fn.machine l.machine;
}

abbrev pub decreases-loop-progress : goal.decreases-loop-progress
decreases-loop-progress l = l.to - l.progress.at
