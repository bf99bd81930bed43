use Rattle.std.proofs.Common.{arith}
use Rattle.risc_core.proofs.flags.Flags.from_number.Goals as goal

pub returns : goal.returns
returns c = search arith
