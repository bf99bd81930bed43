use Rattle.std.proofs.Common.{◌≡◌, ◌<◌, ℕ, length}
use Rattle.std.specs.Prelude.{slice_index}
use Rattle.oberon_session.proofs.storing.write_words.Given as goal

abbrev pub invariant-loop-number : goal.invariant-loop-number
invariant-loop-number l = record {
  base : l.memory.base ≡ l.initial.memory.base;
  whole : length l.memory.words ≡ 262144;
  same : (k : ℕ) → k < l.number → slice_index l.memory.words k ≡ slice_index l.words k;
}
