use Rattle.std.proofs.Common.{◌≡◌, ◌<◌, ℕ, false, length, get_or}
use Rattle.std.specs.Prelude.{IsTrue}
use Rattle.risc_search.specs.declared.condition.Clause.{Clause}
use Rattle.risc_search.specs.inner.Observed.{IsKnown, armed_at}
use Rattle.risc_search.proofs.meeting.arm.Given as goal

abbrev pub invariant-loop-index : goal.invariant-loop-index
invariant-loop-index l = record {
  armed : (k : ℕ) (d : Clause) → k < l.index → IsKnown (get_or l.conditions k d).condition l.machine.state l.taken (armed_at l.armed k);
  count : length l.armed ≡ length l.fn.armed;
  none : l.any ≡ false → (k : ℕ) → k < l.index → ¬ (IsTrue (armed_at l.armed k).is_armed);
}
