use Rattle.std.proofs.Common.{◌≡◌, ◌<◌, ℕ, get_or, length}
use Rattle.oberon_session.specs.Digits.{word_of_bytes}
use Rattle.oberon_session.proofs.digits.page_of.Given as goal

abbrev pub invariant-loop-i : goal.invariant-loop-i
invariant-loop-i l = (length l.words ≡ 256) × ((k : ℕ) → k < l.i → get_or l.words k 0 ≡ word_of_bytes l.bytes k)
