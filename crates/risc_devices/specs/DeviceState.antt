-- The state of the devices ("Project Oberon" 2013, the hardware chapters: a timer, buttons and switches, LEDs, a mouse, a serial
-- line and a keyboard). What is this project's own choice is marked as such.
use Rattle.std.specs.Prelude.{ℕ, ◌+◌, ◌/◌, ◌%◌, ◌^◌, ◌<◌, ◌≤◌, Bool, false, ◌==◌}
use Rattle.std.specs.Prelude.{nat_lt, if◌then◌else◌, IsTrue, List, [], length, All}
use Rattle.risc_devices.specs.InputKind.{is_mouse}
use Rattle.risc_devices.specs.declared.disk.TheConstants.{UNANSWERED}

-- the state of the devices. The timer counts milliseconds: `rate` is the number of instructions in a millisecond, 0 for a timer
-- that inputs alone set, and `phase` is how many of them are done (both are this project's own choice). The buttons are bits 11
-- to 8 of `switches`, and the switches bits 7 to 0. `serial` is the byte that the serial line holds, and `received` says whether
-- it came since the last read. That the line holds one byte, and keeps it after it is read, is this project's own choice. `keys`
-- are the waiting key codes, oldest first. `disk` is what the disk answered last, the word that device word 4 reads; its answers
-- are inputs, and nothing else of the disk is a part of the machine (this project's own choice)
pub record DeviceState : Type 0 where
  pub timer : ℕ
  pub rate : ℕ
  pub phase : ℕ
  pub switches : ℕ
  pub leds : ℕ
  pub mouse : ℕ
  pub serial : ℕ
  pub received : Bool
  pub keys : List ℕ
  pub disk : ℕ

-- devices that are all zeros, with no keys, before the disk's first answer
abbrev pub zero_devices : DeviceState
zero_devices = record {
  timer = 0;
  rate = 0;
  phase = 0;
  switches = 0;
  leds = 0;
  mouse = 0;
  serial = 0;
  received = false;
  keys = [];
  disk = UNANSWERED;
}

-- a phase is below its rate, or 0 if the rate is 0 (this project's own choice)
unfoldable pub is_phase : ℕ → ℕ → Bool
is_phase rate phase = if rate == 0 then phase == 0 else nat_lt phase rate

-- the same as a statement
abbrev pub IsPhase : ℕ → ℕ → Type 0
IsPhase rate phase = IsTrue (is_phase rate phase)

-- each part is in its range. That at most sixteen key codes wait is this project's own choice, as is the mouse word's layout
pub record IsDeviceState (d : DeviceState) : Type 0 where
  pub timer : d.timer < 2 ^ 32
  pub rate : d.rate < 2 ^ 32
  pub phase : IsPhase d.rate d.phase
  pub switches : d.switches < 2 ^ 12
  pub leds : d.leds < 2 ^ 8
  pub mouse : IsTrue (is_mouse d.mouse)
  pub serial : d.serial < 2 ^ 8
  pub keys : length d.keys ≤ 16
  pub codes : All (λ code. code < 2 ^ 8) d.keys
  pub disk : d.disk < 2 ^ 32

-- the byte on the serial line and "received" as one number, whose bit 8 is "received" (this project's own choice)
abbrev pub serial_number : DeviceState → ℕ
serial_number d = d.serial + (if d.received then 2 ^ 8 else 0)

-- the devices with these parts, the serial line's given as one number, before the disk's first answer (this project's own choice)
abbrev pub state_of_parts : ℕ → ℕ → ℕ → ℕ → ℕ → ℕ → ℕ → List ℕ → DeviceState
state_of_parts timer rate phase switches leds mouse serial keys = record {
  timer = timer;
  rate = rate;
  phase = phase;
  switches = switches;
  leds = leds;
  mouse = mouse;
  serial = serial % 2 ^ 8;
  received = serial / 2 ^ 8 == 1;
  keys = keys;
  disk = UNANSWERED;
}

-- the parts of devices whose types in `Devices::new` are wider than their ranges are in range. The others always are: the timer and
-- the rate are 32-bit words there, and the LEDs and each key code are bytes (this project's own choice)
pub record AreParts (rate phase switches mouse serial : ℕ) (keys : List ℕ) : Type 0 where
  pub phase_fits : IsPhase rate phase
  pub switches_fit : switches < 2 ^ 12
  pub mouse_fits : IsTrue (is_mouse mouse)
  pub serial_fits : serial < 2 ^ 9
  pub keys_fit : length keys ≤ 16
