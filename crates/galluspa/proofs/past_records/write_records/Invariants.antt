use Rattle.std.proofs.Common.{◌≡◌, ◌≤◌, ℕ, get_or, length}
use Rattle.galluspa.specs.declared.records.RawRecord.{RawRecord}
use Rattle.galluspa.specs.inner.Recording.{AreRaw}
use Rattle.galluspa.proofs.past_records.write_records.Given as goal

abbrev pub invariant-loop-index : goal.invariant-loop-index
invariant-loop-index l = record {
  count : length l.out ≡ length l.initial.out;
  each : AreRaw l.index l.records l.out;
  rest : (k : ℕ) (e : RawRecord) → length l.records ≤ k → get_or l.out k e ≡ get_or l.initial.out k e;
}
