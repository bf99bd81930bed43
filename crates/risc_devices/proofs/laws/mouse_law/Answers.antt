use Rattle.risc_devices.proofs.MouseLemmas.{mouse_law-holds}
use Rattle.risc_devices.proofs.laws.mouse_law.Goals as goal

pub returns : goal.returns
returns c = mouse_law-holds
