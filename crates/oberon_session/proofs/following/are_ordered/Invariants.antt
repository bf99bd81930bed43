use Rattle.std.proofs.Common.{◌≡◌, ◌<◌, ℕ}
use Rattle.risc_model.specs.InputOrder.{IsRightIndex, count_before}
use Rattle.oberon_session.proofs.following.are_ordered.Given as goal

abbrev pub invariant-loop-event : goal.invariant-loop-event
invariant-loop-event l = record {
  right : (k : ℕ) → k < l.event-index → IsRightIndex l.inputs k;
  least : l.least ≡ count_before l.inputs l.event-index;
}
