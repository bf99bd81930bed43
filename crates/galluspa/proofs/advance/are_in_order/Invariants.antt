use Rattle.std.proofs.Common.{◌≡◌, ◌<◌, ℕ}
use Rattle.galluspa.specs.inner.Running.{IsRight, raw_before}
use Rattle.galluspa.proofs.advance.are_in_order.Given as goal

abbrev pub invariant-loop-input : goal.invariant-loop-input
invariant-loop-input l = record {
  right : (k : ℕ) → k < l.input-index → IsRight l.inputs k;
  least : l.least ≡ raw_before l.inputs l.input-index;
}
