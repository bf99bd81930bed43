use Rattle.std.proofs.Common.{arith}
use Rattle.std.proofs.lemmas.Grind.{elements}
use Rattle.risc_devices.proofs.display.draw.Goals as goal

pub returns : goal.returns
returns c = grind (arith, elements)
