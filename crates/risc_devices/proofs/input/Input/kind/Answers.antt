use Rattle.std.proofs.Common.{arith}
use Rattle.risc_devices.proofs.input.Input.kind.Goals as goal

pub returns : goal.returns
returns c = search arith
