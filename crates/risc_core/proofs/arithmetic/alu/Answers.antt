use Rattle.std.proofs.Common.{rules}
use Rattle.risc_core.specs.Arithmetic.{outcome_of, difference_of}
use Rattle.risc_core.proofs.arithmetic.alu.Goals as goal

pub returns-in-9-clause-value : goal.returns-in-9-clause-value
unfolding outcome_of difference_of
returns-in-9-clause-value c = search rules
