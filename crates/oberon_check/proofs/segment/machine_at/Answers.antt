use Rattle.std.proofs.lemmas.Result.{IfOk-weaker}
use Rattle.oberon_check.proofs.Replayed.{state_of_start}
use Rattle.oberon_check.proofs.segment.machine_at.Goals as goal

pub returns : goal.returns
returns c =
    IfOk-weaker c.start.result _ _
    (λ m is. state_of_start c.args.r.now c.args.i _ _ _ m.state c.pool.ensures.pool c.checkpoint-claim.ensures.checkpoint c.copy-devices.ensures.copy is)
    c.start.ensures.state
