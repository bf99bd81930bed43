use Rattle.std.proofs.Common.{◌≡◌, ◌<◌, ℕ}
use Rattle.risc_model.specs.InputOrder.{IsRightIndex, count_before}
use Rattle.risc_model.proofs.inputs.first_wrong.Given as goal

abbrev pub invariant-loop-at : goal.invariant-loop-at
invariant-loop-at l = record {
  right : (k : ℕ) → k < l.at → IsRightIndex l.list k;
  least : l.least ≡ count_before l.list l.at;
}
