use Rattle.std.proofs.Common.{arith}
use Rattle.risc_devices.specs.DeviceState.{is_phase}
use Rattle.risc_devices.proofs.phase.is_phase_at.Goals as goal

pub returns-else-rate-eq0 : goal.returns-else-rate-eq0
unfolding is_phase
returns-else-rate-eq0 c = search arith
