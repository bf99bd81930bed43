use Rattle.std.proofs.Common.{◌≡◌, ◌≤◌, ◌-◌}
use Rattle.risc_model.specs.Replay.{run_of}
use Rattle.risc_machine.specs.Allocation.{Keeps}
use Rattle.risc_machine.specs.CallLogs.{IsReserved, IsWithin}
use Rattle.risc_machine.specs.inner.Follows.{HasFollowed, SameBounds}
use Rattle.risc_machine.proofs.machine.Machine.follow.Given as goal

abbrev pub invariant-loop-at : goal.invariant-loop-at
invariant-loop-at l = record {
  reached : (l.from ≤ l.at) × (l.at ≤ l.to);
  state : l.self.state ≡ run_of l.events l.from (l.at - l.from) l.fn.self.state;
  followed : HasFollowed l.events l.from (l.at - l.from) l.fn.self.state l.fn.log l.log;
  kept : Keeps l.fn.self l.self;
  reserved : IsReserved l.log;
  within : IsWithin l.log;
  bounds : SameBounds l.fn.log l.log;
}

abbrev pub decreases-loop-at : goal.decreases-loop-at
decreases-loop-at l = l.to - l.at
