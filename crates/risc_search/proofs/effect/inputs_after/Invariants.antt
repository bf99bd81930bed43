use Rattle.std.proofs.Common.{◌+◌, ◌<◌, ℕ}
use Rattle.risc_model.specs.InputOrder.{count_at}
use Rattle.risc_search.proofs.effect.inputs_after.Given as goal

abbrev pub invariant-loop-index : goal.invariant-loop-index
invariant-loop-index l = (k : ℕ) → k < l.index → count_at l.events k < l.at + 1
