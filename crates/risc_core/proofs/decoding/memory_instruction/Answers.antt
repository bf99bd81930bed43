use Rattle.std.proofs.Common.{arith}
use Rattle.risc_core.proofs.decoding.memory_instruction.Goals as goal

pub returns-then-is_set-clause-value : goal.returns-then-is_set-clause-value
returns-then-is_set-clause-value c = search arith
