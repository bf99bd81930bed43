use Rattle.std.proofs.Common.{arith}
use Rattle.risc_devices.proofs.input.Input.new_with_disk.Goals as goal

pub invariant_of-result : goal.invariant_of-result
invariant_of-result c = search arith
