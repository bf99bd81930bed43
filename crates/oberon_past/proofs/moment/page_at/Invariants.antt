use Rattle.std.proofs.Common.{◌≡◌, ◌+◌, ◌*◌, ◌<◌, ℕ, get_or, length}
use Rattle.oberon_past.proofs.moment.page_at.Given as goal

abbrev pub invariant-loop-i : goal.invariant-loop-i
invariant-loop-i l = record {
  len : length l.words ≡ 256;
  each : (k d : ℕ) → k < l.i → get_or l.words k d ≡ get_or l.memory.words (256 * l.slot + k) 0;
}
