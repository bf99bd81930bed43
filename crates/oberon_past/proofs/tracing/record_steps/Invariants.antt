use Rattle.std.proofs.Common.{◌≡◌, ◌-◌}
use Rattle.risc_model.specs.InputOrder.{IsNextAt}
use Rattle.risc_model.specs.Replay.{run_of}
use Rattle.oberon_past.specs.Trace.{AreRecords}
use Rattle.oberon_past.proofs.tracing.record_steps.Given as goal

abbrev pub invariant-loop-at : goal.invariant-loop-at
invariant-loop-at l = record {
  state : l.machine.state ≡ run_of l.inputs l.from (l.at - l.from) l.fn.machine.state;
  next : IsNextAt l.inputs l.next l.at;
  records : AreRecords (record { start = l.from; first = l.fn.machine.state; inputs = l.inputs }) l.from (record { list = l.list; next = l.at });
}
