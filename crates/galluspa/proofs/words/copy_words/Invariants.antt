use Rattle.std.proofs.Common.{◌≡◌, ◌<◌, ℕ, get_or, length}
use Rattle.galluspa.proofs.words.copy_words.Given as goal

abbrev pub invariant-loop-number : goal.invariant-loop-number
invariant-loop-number l = record {
  len : length l.words ≡ 262144;
  each : (k d : ℕ) → k < l.number → get_or l.words k d ≡ get_or l.memory.words k d;
}
