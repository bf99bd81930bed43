use Rattle.std.proofs.Common.{◌≡◌, ◌<◌, ℕ, get_or, length}
use Rattle.oberon_session.proofs.reading.cpu_of.Given as goal

abbrev pub invariant-loop-i : goal.invariant-loop-i
invariant-loop-i l = (length l.r ≡ 16) × ((k : ℕ) → k < l.i → get_or l.r k 0 ≡ get_or l.start.registers.items k 0)
