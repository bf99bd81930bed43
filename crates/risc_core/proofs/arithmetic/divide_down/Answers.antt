use Rattle.std.proofs.Common.{rules}
use Rattle.risc_core.proofs.arithmetic.divide_down.Goals as goal

pub returns-clause-quotient : goal.returns-clause-quotient
returns-clause-quotient c = search rules
