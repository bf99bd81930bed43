use Rattle.std.proofs.Common.{◌≡◌, ◌<◌, ℕ}
use Rattle.risc_search.specs.Condition.{kind_at}
use Rattle.risc_search.proofs.meeting.has_kind.Given as goal

abbrev pub invariant-loop-event : goal.invariant-loop-event
invariant-loop-event l = (k : ℕ) → k < l.event-index → ¬ (kind_at l.taken k ≡ l.kind)
