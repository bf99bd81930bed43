use Rattle.oberon_format.proofs.Common.{arith, common_steps}
use Rattle.oberon_format.proofs.recording.Recording.count.Goals as goal

pub returns-clause-count : goal.returns-clause-count
returns-clause-count c = grind (arith, common_steps)
