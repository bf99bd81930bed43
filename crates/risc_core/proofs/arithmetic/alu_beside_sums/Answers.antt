use Rattle.std.proofs.Common.{arith}
use Rattle.risc_core.specs.Arithmetic.{outcome_of}
use Rattle.risc_core.proofs.arithmetic.alu_beside_sums.Goals as goal

pub returns-else-op-lt-ADD-clause-value : goal.returns-else-op-lt-ADD-clause-value
unfolding outcome_of
returns-else-op-lt-ADD-clause-value c = search arith
