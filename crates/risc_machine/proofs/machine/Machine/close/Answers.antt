use Rattle.std.proofs.Common.{arith}
use Rattle.risc_machine.proofs.machine.Machine.close.Goals as goal

pub returns-clause-cpu : goal.returns-clause-cpu
returns-clause-cpu c = search arith
