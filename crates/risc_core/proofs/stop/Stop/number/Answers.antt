use Rattle.std.proofs.Common.{arith}
use Rattle.risc_core.proofs.stop.Stop.number.Goals as goal

pub returns-in-Fetch : goal.returns-in-Fetch
returns-in-Fetch c = search arith
