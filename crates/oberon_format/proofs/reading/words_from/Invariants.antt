use Rattle.oberon_format.proofs.Common.{get_or, length, word_at, ℕ, ◌*◌, ◌+◌, ◌<◌, ◌≡◌}
use Rattle.oberon_format.proofs.reading.words_from.Given as goal

abbrev pub invariant-loop-i : goal.invariant-loop-i
invariant-loop-i g l = record {
  len : length l.words ≡ g.row.N;
  each : (k d : ℕ) → k < l.i → get_or l.words k d ≡ word_at l.bytes (l.offset + (l.from + 4 * k));
}
