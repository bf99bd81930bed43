use Rattle.std.proofs.Common.{arith}
use Rattle.oberon_check.proofs.worker.Done.verdicts.Goals as goal

pub returns-clause-verdicts : goal.returns-clause-verdicts
returns-clause-verdicts c = search arith
