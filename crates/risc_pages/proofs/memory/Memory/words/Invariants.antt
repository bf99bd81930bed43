use Rattle.std.proofs.Common.{◌≡◌, slice_range}
use Rattle.risc_pages.proofs.memory.Memory.words.Given as goal

abbrev pub invariant-loop-number : goal.invariant-loop-number
invariant-loop-number l = l.words.items ≡ slice_range l.self.words l.from l.number
