use Rattle.std.proofs.Common.{◌≡◌, ◌+◌, ◌≤◌, ℕ, length, slice_index_or}
use Rattle.risc_model.specs.InputOrder.{IsNextAt}
use Rattle.risc_model.specs.Replay.{run_of}
use Rattle.galluspa.specs.Records.{AreRecorded}
use Rattle.galluspa.specs.declared.records.RawRecord.{RawRecord}
use Rattle.galluspa.proofs.records.record_machine.Given as goal

abbrev pub invariant-loop-index : goal.invariant-loop-index
invariant-loop-index l = record {
  count : length l.records ≡ length l.fn.records;
  state : l.machine.state ≡ run_of l.inputs l.from l.index l.fn.machine.state;
  base : l.machine.base ≡ l.fn.machine.base;
  next : IsNextAt l.inputs l.next (l.from + l.index);
  each : AreRecorded l.index l.records l.inputs l.from l.fn.machine.state;
  rest : (i : ℕ) (d : RawRecord) → l.index ≤ i → slice_index_or l.records i d ≡ slice_index_or l.fn.records i d;
}
