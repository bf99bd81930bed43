use Rattle.std.proofs.Common.{◌≤◌, length, drop}
use Rattle.galluspa.proofs.OpenLemmas.{IsSeen}
use Rattle.galluspa.proofs.calls.are_open.Given as goal

abbrev pub invariant-loop-next : goal.invariant-loop-next
invariant-loop-next l = record {
  inside : l.next ≤ length l.calls;
  seen : IsSeen l.limit l.count l.least l.highest (drop l.next l.calls);
}

abbrev pub decreases-loop-next : goal.decreases-loop-next
decreases-loop-next l = l.next
