use Rattle.std.proofs.Common.{refl}
use Rattle.oberon_check.proofs.Replayed.{part_of_run, state_of_run}
use Rattle.oberon_check.proofs.segment.replayed_part.Goals as goal

pub returns-in_default-clause-part : goal.returns-in_default-clause-part
returns-in_default-clause-part c = tt

pub returns-in_default-clause-state : goal.returns-in_default-clause-state
returns-in_default-clause-state c = tt

pub returns-clause-part : goal.returns-clause-part
returns-clause-part c = record {
  lawful = c.checkpoint-to.ensures.lawful;
  inside = c.requires.segment;
  replay = part_of_run c.args.r.now c.args.i _ _ _ _ _ _ _ _ _ _ _ c.pool.ensures.pool c.inputs.ensures.inputs c.checkpoint-from.ensures.checkpoint
      c.checkpoint-to.ensures.checkpoint c.requires.state c.in-Ok.ensures.state c.in-Ok.ensures.same refl refl c.deref.ensures.value
      c.first_difference-part.ensures;
}

pub returns-clause-state : goal.returns-clause-state
returns-clause-state c =
    state_of_run c.args.r.now c.args.i _ _ _ _ _ _ _ c.pool.ensures.pool c.checkpoint-to.ensures.checkpoint c.in-Ok.ensures.same
    c.deref.ensures.value c.first_difference-part.ensures
