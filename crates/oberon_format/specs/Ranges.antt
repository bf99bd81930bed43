-- The ranges of a recording's fields. All limits are this project's own choice, except the end of program counters. Their names
-- are in the code's module `ranges`, or in a crate below that has them too.
use Rattle.std.specs.Prelude.{ℕ, drop, ◌+◌, Bool, true, ◌&&◌, ◌||◌, ◌==◌, nat_le, nat_lt, not, if◌then◌else◌}
use Rattle.std.specs.List.{list_all}
use Rattle.risc_core.specs.declared.branch.TheConstants.{COUNTER_END}
use Rattle.risc_devices.specs.DeviceState.{is_phase}
use Rattle.risc_devices.specs.InputKind.{is_input_with_disk, is_mouse}
use Rattle.oberon_format.specs.declared.change.Change.{Change}
use Rattle.oberon_format.specs.declared.fields.CheckpointFields.{CheckpointFields}
use Rattle.risc_pages.specs.declared.sizes.TheConstants.{PAGE_SLOTS}
use Rattle.oberon_format.specs.declared.layout.TheConstants.{FIRST_VERSION, VERSION, VERSION_WITH_DISK}
use Rattle.risc_model.specs.declared.inputs.TheConstants.{MAX_COUNT}
use Rattle.oberon_format.specs.declared.ranges.TheConstants.{FLAGS_END, MAX_STOP, SWITCHES_END, LEDS_END, SERIAL_END, MAX_KEYS}
use Rattle.recording_limits.specs.declared.limits.TheConstants.{MAX_EVENTS_WITH_DISK, MAX_OUTPUT, MAX_EVENTS}
use Rattle.risc_devices.specs.declared.kinds.TheConstants.{DISK}
use Rattle.oberon_format.specs.Fields.{EventFields}

-- the versions of a recording without a disk
abbrev pub is_version : ℕ → Bool
is_version version = version == FIRST_VERSION || version == VERSION

-- the known versions, that with a disk among them
abbrev pub is_version_with_disk : ℕ → Bool
is_version_with_disk version = version == FIRST_VERSION || (version == VERSION || version == VERSION_WITH_DISK)

-- the most events of a file
abbrev pub max_events : ℕ → ℕ
max_events version = if version == VERSION_WITH_DISK then MAX_EVENTS_WITH_DISK else MAX_EVENTS

-- an event's kind is one that the version has: only version 3 has inputs of the disk
abbrev pub has_kind : ℕ → ℕ → Bool
has_kind version kind = version == VERSION_WITH_DISK || not (kind == DISK)

-- an event's count is at least `floor`, that of the event before it, and at most `MAX_COUNT`; its value is one of its kind's, and
-- its kind one of the version's
abbrev pub is_event : ℕ → ℕ → EventFields → Bool
is_event version floor e =
    nat_le floor e.count && nat_le e.count MAX_COUNT && is_input_with_disk e.kind e.value && has_kind version e.kind

-- the count of checkpoint k is 0 for checkpoint 0, and else above the one before and at most `MAX_COUNT`
abbrev pub is_count : ℕ → ℕ → ℕ → Bool
is_count k before count = if k == 0 then count == 0 else (nat_lt before count && nat_le count MAX_COUNT)

-- checkpoint 0 has no output, and the output up to each checkpoint is within the limit
abbrev pub is_output : ℕ → ℕ → ℕ → Bool
is_output k sent own = (if k == 0 then own == 0 else true) && nat_le (sent + own) MAX_OUTPUT

-- at most sixteen keys, and zeros after them
abbrev pub are_keys : CheckpointFields → Bool
are_keys c = nat_le c.waiting MAX_KEYS && list_all (λ byte. byte == 0) (drop c.waiting c.keys)

-- the fields that have a range of their own
abbrev pub in_ranges : CheckpointFields → Bool
in_ranges c =
    nat_lt c.pc COUNTER_END
    && nat_lt c.flags FLAGS_END
    && nat_le c.stop MAX_STOP
    && is_phase c.rate c.phase
    && nat_lt c.switches SWITCHES_END
    && nat_lt c.leds LEDS_END
    && is_mouse c.mouse
    && nat_lt c.serial SERIAL_END
    && nat_le c.changes PAGE_SLOTS

-- all fields of checkpoint k, after a checkpoint of count `before` and `sent` bytes of output
abbrev pub is_checkpoint : ℕ → ℕ → ℕ → CheckpointFields → Bool
is_checkpoint k before sent c = is_count k before c.count && in_ranges c && are_keys c && is_output k sent c.output

-- a change is lawful if its slot is at least `floor` and one of the table's, and its page id is that of a page and differs from
-- `prior`, the slot's page id before the change
abbrev pub is_change : ℕ → ℕ → (ℕ → ℕ) → Change → Bool
is_change pages floor prior change =
    nat_le floor change.slot
    && nat_lt change.slot PAGE_SLOTS
    && nat_le change.page_id pages
    && not (change.page_id == prior change.slot)
