-- The inputs of the disk (this project's own choice).
use Rattle.std.specs.Prelude.{◌≡◌}
use Rattle.risc_devices.specs.declared.kinds.TheConstants.{DISK}
use Rattle.risc_devices.specs.Input.{kind_of}
use Rattle.risc_model.specs.declared.event.Event.{Event}

-- an input is an answer of the disk
abbrev pub IsOfDisk : Event → Type 0
IsOfDisk e = kind_of e.input ≡ DISK
