use Rattle.std.proofs.Common.{◌<◌, ℕ}
use Rattle.risc_model.specs.MachineState.{cpu_state}
use Rattle.risc_search.specs.inner.Observed.{IsMetAt}
use Rattle.risc_search.proofs.meeting.any_met.Given as goal

abbrev pub invariant-loop-index : goal.invariant-loop-index
invariant-loop-index l = (k : ℕ) → k < l.index → ¬ (IsMetAt l.conditions l.armed (cpu_state l.cpu) l.stored l.sent k)
