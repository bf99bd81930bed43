-- The ranges of the devices, and that the parts determine the devices.
use Rattle.std.proofs.Common.{◌≡◌, ℕ, ◌+◌, ◌/◌, ◌%◌, ◌^◌, ◌<◌, ◌≤◌, Bool, true, false, List, [], length, refl, sym, ◌∙◌, arith}
use Rattle.std.specs.Prelude.{◌==◌, All, if◌then◌else◌}
use Rattle.std.proofs.lemmas.Grind.{common_steps}
use Rattle.risc_devices.specs.KeyCodes.{joined}
use Rattle.risc_devices.specs.DeviceState.{DeviceState, zero_devices, IsDeviceState, IsPhase, AreParts, serial_number, state_of_parts}
use Rattle.risc_devices.specs.InputKind.{kind_number, is_mouse, IsInputWithDisk}
use Rattle.risc_devices.specs.Input.{taken_value}
use Rattle.risc_devices.specs.declared.kind.Kind.{Kind}
use Rattle.risc_devices.specs.declared.kind.Kind.TheVariants.{Timer, Switches, Mouse, Key, Serial, Disk}
use Rattle.risc_devices.proofs.InputLemmas.{timer_fits, switches_fit, mouse_fits, key_fits, serial_fits, disk_fits}

-- a queue keeps at most sixteen bytes
joined-length : (code : ℕ) (keys : List ℕ) → length keys ≤ 16 → length (joined code keys) ≤ 16
unfolding joined
joined-length code keys few = grind (arith, common_steps)

joined-All : (code : ℕ) (keys : List ℕ) → code < 2 ^ 8 → All (λ k. k < 2 ^ 8) keys → All (λ k. k < 2 ^ 8) (joined code keys)
unfolding joined
joined-All code keys byte bytes = grind (arith, common_steps)

-- an input leaves the devices in their ranges
pub taken_value-range : (kind : Kind) (value : ℕ) (d : DeviceState) → IsInputWithDisk (kind_number kind) value → IsDeviceState d → IsDeviceState (taken_value kind value d)
unfolding taken_value
taken_value-range Timer value d lawful fits = search (timer_fits value lawful)
taken_value-range Switches value d lawful fits = search (switches_fit value lawful)
taken_value-range Mouse value d lawful fits = search (mouse_fits value lawful)
taken_value-range Key value d lawful fits = search (joined-length value d.keys fits.keys, joined-All value d.keys (key_fits value lawful) fits.codes)
taken_value-range Serial value d lawful fits = search (serial_fits value lawful)
taken_value-range Disk value d lawful fits = search (disk_fits value lawful)

-- devices that are all zeros except for the timer are in their ranges if it is
pub timer_fit : (timer rate phase : ℕ) → timer < 2 ^ 32 → rate < 2 ^ 32 → IsPhase rate phase → IsDeviceState (record zero_devices { timer = timer; rate = rate; phase = phase })
unfolding is_mouse
timer_fit timer rate phase timer_fits rate_fits phase_fits = grind arith

pub zero_parts : (rate phase : ℕ) → IsPhase rate phase → AreParts rate phase 0 0 0 []
unfolding is_mouse
zero_parts rate phase fits = record { phase_fits = fits; switches_fit = omega arith; mouse_fits = refl; serial_fits = omega arith; keys_fit = omega arith }

-- the serial line's number determines its byte and "received"
byte : (serial : ℕ) (received : Bool) → serial < 2 ^ 8 → (serial + (if received then 2 ^ 8 else 0)) % 2 ^ 8 ≡ serial
byte serial true fits = omega arith
byte serial false fits = omega arith

bit : (serial : ℕ) (received : Bool) → serial < 2 ^ 8 → ((serial + (if received then 2 ^ 8 else 0)) / 2 ^ 8 == 1) ≡ received
bit serial true fits = let one : (serial + 2 ^ 8) / 2 ^ 8 ≡ 1 = omega arith in rw one refl
bit serial false fits = let none : (serial + 0) / 2 ^ 8 ≡ 0 = omega arith in rw none refl

number : (serial : ℕ) (received : Bool) → serial < 2 ^ 8 → serial + (if received then 2 ^ 8 else 0) < 2 ^ 9
number serial true low = omega arith
number serial false low = omega arith

-- devices are those of their parts
pub devices_back : (d : DeviceState) → IsDeviceState d → record (state_of_parts d.timer d.rate d.phase d.switches d.leds d.mouse (serial_number d) d.keys) { disk = d.disk } ≡ d
devices_back d fits =
    let b = byte d.serial d.received fits.serial in
    let r = bit d.serial d.received fits.serial in
    λ i. record d { serial = b i; received = r i }

-- the parts of devices are in their ranges
pub parts_fit : (d : DeviceState) → IsDeviceState d → AreParts d.rate d.phase d.switches d.mouse (serial_number d) d.keys
parts_fit d fits = record {
  phase_fits = fits.phase;
  switches_fit = fits.switches;
  mouse_fits = fits.mouse;
  serial_fits = number d.serial d.received fits.serial;
  keys_fit = fits.keys;
}

-- devices in their ranges are equal if their parts are
pub same_devices : (a b : DeviceState) → IsDeviceState a → IsDeviceState b → a.timer ≡ b.timer → a.rate ≡ b.rate → a.phase ≡ b.phase → a.switches ≡ b.switches → a.leds ≡ b.leds → a.mouse ≡ b.mouse → serial_number a ≡ serial_number b → a.keys ≡ b.keys → a.disk ≡ b.disk → a ≡ b
same_devices a b fits_a fits_b timer rate phase switches leds mouse serial keys disk =
    sym (devices_back a fits_a)
    ∙ (λ i. record (state_of_parts (timer i) (rate i) (phase i) (switches i) (leds i) (mouse i) (serial i) (keys i)) { disk = disk i })
    ∙ devices_back b fits_b
