use Rattle.std.proofs.Common.{◌≡◌, ◌-◌, ◌≤◌, length}
use Rattle.risc_model.specs.Replay.{run_of, sent_of}
use Rattle.galluspa.proofs.advance.sent_by.Given as goal

abbrev pub invariant-loop-at : goal.invariant-loop-at
invariant-loop-at l = record {
  begun : l.from ≤ l.at;
  within : l.at ≤ l.to;
  state : l.machine.state ≡ run_of l.inputs l.from (l.at - l.from) l.initial.machine.state;
  output : l.output.bytes.items ≡ sent_of l.inputs l.from (l.at - l.from) l.initial.machine.state;
  held : length l.output.bytes.items ≤ l.output.room;
  room : l.output.room ≡ l.room;
  base : l.machine.base ≡ l.initial.machine.base;
}

abbrev pub decreases-loop-at : goal.decreases-loop-at
decreases-loop-at l = l.to - l.at
