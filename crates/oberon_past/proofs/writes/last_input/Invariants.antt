use Rattle.std.proofs.Common.{◌≡◌, ◌+◌, ◌<◌, ◌≤◌, ℕ, length}
use Rattle.risc_model.specs.InputOrder.{count_at}
use Rattle.risc_search.specs.Condition.{kind_at}
use Rattle.oberon_past.proofs.writes.last_input.Given as goal

-- no input of the kind that has the count is among those that the loop has passed
abbrev pub invariant-loop-back : goal.invariant-loop-back
invariant-loop-back l = (k : ℕ) → l.end ≤ k + l.back → k < length l.events → count_at l.events k ≡ l.at → ¬ (kind_at l.events k ≡ l.kind)
