use Rattle.std.proofs.Common.{arith}
use Rattle.risc_core.proofs.word.signed_20.Goals as goal

pub returns-clause-value : goal.returns-clause-value
returns-clause-value c = search arith
