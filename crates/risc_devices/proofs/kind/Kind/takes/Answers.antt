use Rattle.std.proofs.Common.{arith}
use Rattle.risc_devices.specs.InputKind.{is_input, is_input_with_disk}
use Rattle.risc_devices.proofs.kind.Kind.takes.Goals as goal

pub returns-in-Key : goal.returns-in-Key
unfolding is_input is_input_with_disk
returns-in-Key c = search arith
