-- Inputs, and what they do to the devices. An input is a change from outside, of a kind and with a value (this project's own
-- choice).
use Rattle.std.specs.Prelude.{ℕ, true}
use Rattle.risc_devices.specs.declared.input.Input.{Input}
use Rattle.risc_devices.specs.declared.kind.Kind.{Kind}
use Rattle.risc_devices.specs.declared.kind.Kind.TheVariants.{Timer, Switches, Mouse, Key, Serial, Disk}
use Rattle.risc_devices.specs.DeviceState.{DeviceState}
use Rattle.risc_devices.specs.KeyCodes.{joined}
use Rattle.risc_devices.specs.InputKind.{kind_number}
pub use Rattle.risc_devices.specs.InputKind.{IsInput, IsInputWithDisk}
unfoldable pub use Rattle.risc_devices.specs.InputKind.{is_input, is_input_with_disk, is_mouse}

-- the number of an input's kind
abbrev pub kind_of : Input → ℕ
kind_of i = kind_number i.kind

-- an input's value
abbrev pub value_of : Input → ℕ
value_of i = i.value

-- an input sets the part of the devices that belongs to its kind: the timer, the buttons and switches, the mouse word, the serial
-- line's byte, which is then "received", or the disk's answer. A key code joins the queue
unfoldable pub taken_value : Kind → ℕ → DeviceState → DeviceState
taken_value Timer value d = record d { timer = value }
taken_value Switches value d = record d { switches = value }
taken_value Mouse value d = record d { mouse = value }
taken_value Key value d = record d { keys = joined value d.keys }
taken_value Serial value d = record d { serial = value; received = true }
taken_value Disk value d = record d { disk = value }

-- the devices after an input is taken
unfoldable pub taken_input : Input → DeviceState → DeviceState
taken_input i d = taken_value i.kind i.value d
