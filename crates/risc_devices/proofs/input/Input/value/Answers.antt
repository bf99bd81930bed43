use Rattle.std.proofs.Common.{arith}
use Rattle.risc_devices.proofs.input.Input.value.Goals as goal

pub returns-clause-value : goal.returns-clause-value
returns-clause-value c = search arith
