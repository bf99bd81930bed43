use Rattle.std.proofs.Common.{below_more}
use Rattle.std.proofs.lemmas.Bool.{false≢true}
use Rattle.risc_model.specs.MachineState.{cpu_state}
use Rattle.risc_search.specs.inner.Observed.{IsMetAt}
use Rattle.risc_search.proofs.meeting.any_met.Goals as goal

pub loop-index-preserved : goal.loop-index-preserved
loop-index-preserved c =
    below_more (λ k. ¬ (IsMetAt c.args.conditions.now c.args.armed.now (cpu_state c.args.cpu.now) c.args.stored c.args.sent k)) c.loop-index.index c.loop-index.invariant
    (λ met. false≢true (c.if-is_met_at.ensures.1 met))
