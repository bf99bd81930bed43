use Rattle.std.proofs.Common.{arith}
use Rattle.risc_core.proofs.flags.written.Goals as goal

pub returns : goal.returns
returns c = search arith
