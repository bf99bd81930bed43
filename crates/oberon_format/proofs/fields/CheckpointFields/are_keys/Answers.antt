use Rattle.oberon_format.proofs.Common.{arith, common_steps}
use Rattle.oberon_format.proofs.fields.CheckpointFields.are_keys.Goals as goal

pub returns-then-self : goal.returns-then-self
returns-then-self c = grind (arith, common_steps)
