use Rattle.std.proofs.Common.{◌≡◌, drop}
use Rattle.risc_model.specs.Replay.{fed}
use Rattle.risc_search.proofs.effect.fed_devices.Given as goal

abbrev pub invariant-loop-index : goal.invariant-loop-index
invariant-loop-index l = fed l.events l.at l.machine.state.devices ≡ fed (drop l.index l.events) l.at l.devices
