-- A machine in the memory of a caller in C: its state as plain numbers, its words, and its inputs (this project's own choice).
use Rattle.std.specs.Prelude.{ℕ, ◌≡◌, ◌<◌, ◌≤◌, List, All, drop, length, map, take}
use Rattle.risc_core.specs.declared.branch.TheConstants.{COUNTER_END}
use Rattle.risc_core.specs.Flags.{flags_of}
use Rattle.risc_devices.specs.DeviceState.{AreParts, DeviceState, state_of_parts}
use Rattle.risc_devices.specs.Input.{kind_of, value_of}
use Rattle.risc_model.specs.declared.event.Event.{Event}
use Rattle.risc_model.specs.InputOrder.{AreOrdered}
use Rattle.risc_model.specs.MachineState.{CpuState, State}
use Rattle.risc_pages.specs.declared.sizes.TheConstants.{MEMORY_WORDS}
use Rattle.galluspa.specs.declared.raw.RawState.{RawState}
use Rattle.galluspa.specs.declared.raw.RawInput.{RawInput}

-- the processor
abbrev pub cpu_of : RawState → CpuState
cpu_of s = record { r = s.r; h = s.h; pc = s.pc; flags = flags_of s.flags; stop = s.stop }

-- the devices. Only the first `key_count` bytes of `keys` are key codes
abbrev pub devices_of : RawState → DeviceState
devices_of s =
    record (state_of_parts s.timer s.rate s.phase s.switches s.leds s.mouse s.serial (take s.key_count s.keys)) { disk = s.disk }

-- the numbers of the processor are in their ranges
abbrev pub IsCpu : RawState → Type 0
IsCpu s = (s.pc < COUNTER_END) × (s.flags < 16) × (s.stop ≤ 4)

-- those of the devices are in theirs
abbrev pub AreDevices : RawState → Type 0
AreDevices s = (s.leds < 256) × (s.key_count ≤ 16) × AreParts s.rate s.phase s.switches s.mouse s.serial (take s.key_count s.keys)

-- the whole state, with the words of its memory
abbrev pub state_of : RawState → List ℕ → State
state_of s words = record { cpu = cpu_of s; devices = devices_of s; words = words }

-- a state with as many words as a memory has, each number in its range
pub record IsWhole (state : RawState) (words : List ℕ) : Type 0 where
  pub whole : length words ≡ MEMORY_WORDS
  pub cpu : IsCpu state
  pub devices : AreDevices state

-- the bytes after the key codes are 0, and so is the reserved word, which nothing reads
abbrev pub IsPadded : RawState → Type 0
IsPadded s = All (λ key. key ≡ 0) (drop s.key_count s.keys) × (s.reserved ≡ 0)

-- a state as a call writes it: the next call takes it, and what is not read of it is 0
pub record IsWritten (state : RawState) (words : List ℕ) : Type 0 where
  pub is_whole : IsWhole state words
  pub padded : IsPadded state

-- an event as a caller writes it
abbrev pub raw_input : Event → RawInput
raw_input e = record { count = e.count; kind = kind_of e.input; value = value_of e.input }

-- a caller's inputs are these events, which are in order
pub record AreEvents (inputs : List RawInput) (events : List Event) : Type 0 where
  pub written : map raw_input events ≡ inputs
  pub ordered : AreOrdered events

-- a caller's inputs are in their ranges and in order
abbrev pub AreInOrder : List RawInput → Type 0
AreInOrder inputs = (events : List Event) × AreEvents inputs events

-- no list of events in order is written so
abbrev pub AreNoEvents : List RawInput → Type 0
AreNoEvents inputs = (events : List Event) → ¬ (AreEvents inputs events)
