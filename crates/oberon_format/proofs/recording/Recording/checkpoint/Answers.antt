use Rattle.oberon_format.proofs.Common.{ap, arith, checkpoint_at, checkpoint_parts, length, length-map, RecordingParts, sym, ◌<◌, ◌∙◌}
use Rattle.oberon_format.proofs.CheckpointLemmas.{checkpoint_at-is, fit_at}
use Rattle.oberon_format.proofs.recording.Recording.checkpoint.Goals as goal

pub returns-clause-checkpoint : goal.returns-clause-checkpoint
returns-clause-checkpoint c =
    let items = c.self.inside.checkpoints.items in
    let inside : c.args.k < length items = omega (arith, ap (λ (r : RecordingParts). length r.checkpoints) c.self.view_is, length-map items checkpoint_parts) in
    sym (checkpoint_at-is items c.args.k c.index.result.now inside c.index.ensures) ∙ ap (λ (r : RecordingParts). checkpoint_at r c.args.k) c.self.view_is

pub returns-clause-fit : goal.returns-clause-fit
returns-clause-fit c =
    fit_at c.args.self.now c.self.inside.pool c.self.inside.inputs c.self.inside.checkpoints.items c.args.k c.index.result.now c.self.view_is c.self.invariant c.requires c.index.ensures
