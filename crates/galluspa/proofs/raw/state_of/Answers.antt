use Rattle.std.proofs.Common.{◌≡◌, ◌∙◌, ap, arith, length, refl, take}
use Rattle.std.proofs.Math.Seq.{take-append_seam}
use Rattle.std.proofs.lemmas.Grind.{common_steps}
use Rattle.risc_core.proofs.FlagsLemmas.{flags_back}
use Rattle.risc_devices.proofs.DeviceLemmas.{parts_fit}
use Rattle.galluspa.proofs.raw.state_of.Goals as goal

pub returns-clause-devices : goal.returns-clause-devices
returns-clause-devices c = grind (arith, common_steps)

pub returns-clause-devices_range : goal.returns-clause-devices_range
returns-clause-devices_range c =
    let ranges = c.rate.ensures.ranges in
    let front : take (length c.keys-codes.result.now) c.sixteen.result ≡ c.keys-codes.result.now =
    ap (take (length c.keys-codes.result.now)) c.sixteen.ensures ∙ take-append_seam c.keys-codes.result.now _ in (
      omega (arith, ranges.leds, c.leds.ensures.value),
      rw c.keys-codes.ensures.value ranges.keys,
      rw (front, c.rate.ensures.value, c.phase.ensures.value, c.switches.ensures.value, c.mouse.ensures.value, c.serial.ensures.value, c.keys-codes.ensures.value)
          (parts_fit c.args.devices.now ranges),
    )

pub returns-clause-cpu : goal.returns-clause-cpu
returns-clause-cpu c = rw (c.number.ensures.value, flags_back c.args.cpu.now.flags) refl

pub returns-clause-cpu_range : goal.returns-clause-cpu_range
returns-clause-cpu_range c = (c.requires.counter, c.number.ensures.range, c.requires.stop)
