use Rattle.risc_model.specs.MachineState.{cpu_state}
use Rattle.risc_search.specs.inner.Joined.{IsScanned}
use Rattle.risc_search.specs.inner.Observed.{IsMetAt}
use Rattle.risc_search.proofs.meeting.first_joined.Given as goal

abbrev pub invariant-loop-index : goal.invariant-loop-index
invariant-loop-index l = IsScanned l.conditions (IsMetAt l.conditions l.armed (cpu_state l.cpu) l.stored l.sent) l.first l.index l.all
