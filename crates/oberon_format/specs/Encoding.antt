-- The encoding of a recording in a version: its bytes, one part after another.
use Rattle.std.specs.Prelude.{ℕ, zero, suc, ◌==◌, if◌then◌else◌, List, [], ◌∷◌, ◌++◌, length, slice_index_or}
use Rattle.std.specs.List.{flat_map}
use Rattle.byteorder.specs.Endian.{little_bytes}
use Rattle.risc_core.specs.Flags.{flags_number}
use Rattle.risc_devices.specs.DeviceState.{DeviceState, serial_number}
use Rattle.risc_devices.specs.Input.{kind_of, value_of}
use Rattle.risc_model.specs.declared.event.Event.{Event}
use Rattle.oberon_format.specs.declared.layout.TheConstants.{MAGIC, FIRST_VERSION, VERSION_WITH_DISK}
use Rattle.oberon_format.specs.declared.change.Change.{Change}
use Rattle.oberon_format.specs.Changes.{changes}
use Rattle.oberon_format.specs.CheckpointParts.{CheckpointParts, key_bytes, no_checkpoint}
use Rattle.oberon_format.specs.Recording.{RecordingParts, output_of, table_before}

-- the four bytes of a number, lowest first
unfoldable pub word_bytes : ℕ → List ℕ
word_bytes x = little_bytes 4 x

-- the eight bytes of a number, lowest first
unfoldable pub long_bytes : ℕ → List ℕ
long_bytes x = little_bytes 8 x

abbrev pub words_bytes : List ℕ → List ℕ
words_bytes xs = flat_map word_bytes xs

unfoldable pub event_bytes : Event → List ℕ
event_bytes e = long_bytes e.count ++ words_bytes (kind_of e.input ∷ value_of e.input ∷ [])

-- the fields of a checkpoint that are one word each, in their order
abbrev pub field_words : CheckpointParts → List ℕ
field_words c =
    c.cpu.h
    ∷ c.cpu.pc
    ∷ flags_number c.cpu.flags
    ∷ c.cpu.stop
    ∷ c.devices.timer
    ∷ c.devices.switches
    ∷ c.devices.leds
    ∷ c.devices.mouse
    ∷ serial_number c.devices
    ∷ length c.devices.keys
    ∷ []

-- what begins a checkpoint in each version: its count, the registers, the fields, the keys and the length of its output
unfoldable pub common_bytes : CheckpointParts → List ℕ
common_bytes c =
    long_bytes c.count
    ++ words_bytes c.cpu.r
    ++ words_bytes (field_words c)
    ++ key_bytes c.devices
    ++ words_bytes (length c.sent ∷ [])

unfoldable pub change_bytes : Change → List ℕ
change_bytes change = words_bytes (change.slot ∷ change.page_id ∷ [])

-- the parts of the devices that version 1 has no word for: the rate and the phase of the timer
abbrev pub rate_and_phase : DeviceState → List ℕ
rate_and_phase d = d.rate ∷ d.phase ∷ []

-- the words that begin the tail of a checkpoint after version 1: these, and the number of changes from a table
abbrev pub tail_words : List ℕ → CheckpointParts → List ℕ
tail_words before c = rate_and_phase c.devices ++ (length (changes before c.table) ∷ [])

-- the words that end a checkpoint in version 3: the disk's answer
abbrev pub disk_words : ℕ → DeviceState → List ℕ
disk_words version d = if version == VERSION_WITH_DISK then d.disk ∷ [] else []

-- the tail of a checkpoint: its table in version 1; later these words, the changes from the table before, and the disk's answer
unfoldable pub tail_bytes : ℕ → List ℕ → CheckpointParts → List ℕ
tail_bytes version before c =
    if version == FIRST_VERSION
    then words_bytes c.table
    else words_bytes (tail_words before c) ++ flat_map change_bytes (changes before c.table) ++ words_bytes (disk_words version c.devices)

unfoldable pub checkpoint_bytes : ℕ → List ℕ → CheckpointParts → List ℕ
checkpoint_bytes version before c = common_bytes c ++ tail_bytes version before c

-- the first n checkpoints, each after the table of the one before
unfoldable pub checkpoints_bytes : ℕ → List CheckpointParts → ℕ → List ℕ
checkpoints_bytes version cs zero = []
checkpoints_bytes version cs (suc n) =
    checkpoints_bytes version cs n ++ checkpoint_bytes version (table_before cs n) (slice_index_or cs n no_checkpoint)

unfoldable pub header_bytes : ℕ → RecordingParts → List ℕ
header_bytes version r = words_bytes (MAGIC ∷ version ∷ length r.pool ∷ length r.inputs ∷ length r.checkpoints ∷ 0 ∷ [])

unfoldable pub encoding : ℕ → RecordingParts → List ℕ
encoding version r =
    header_bytes version r ++ flat_map words_bytes r.pool ++ flat_map event_bytes r.inputs
    ++ checkpoints_bytes version r.checkpoints (length r.checkpoints) ++ output_of r.checkpoints
