-- What the reader makes of the bytes of a recording file.
use Rattle.std.specs.Prelude.{ℕ, ◌≡◌, ◌<◌, ◌+◌, ◌*◌, List, length, map, slice_index_or, slice_range}
use Rattle.std.specs.List.{range_with_len}
use Rattle.risc_core.specs.Flags.{flags_of}
use Rattle.risc_devices.specs.DeviceState.{DeviceState, state_of_parts}
use Rattle.risc_devices.specs.Input.{kind_of, value_of}
use Rattle.risc_model.specs.declared.event.Event.{Event}
use Rattle.risc_model.specs.MachineState.{CpuState}
use Rattle.risc_pages.specs.declared.sizes.TheConstants.{PAGE_SLOTS}
use Rattle.oberon_format.specs.declared.layout.TheConstants.{KIND_AT, VALUE_AT, REGISTERS_AT, H_AT, PC_AT, FLAGS_AT}
use Rattle.oberon_format.specs.declared.layout.TheConstants.{STOP_AT, TIMER_AT, SWITCHES_AT, LEDS_AT, MOUSE_AT, SERIAL_AT}
use Rattle.oberon_format.specs.declared.layout.TheConstants.{WAITING_AT, KEYS_AT, SENT_AT, RATE_AT, PHASE_AT}
use Rattle.oberon_format.specs.CheckpointParts.{CheckpointParts}
use Rattle.oberon_format.specs.Layout.{word_at, long_at, page_offset, event_offset, word_since_2, disk_at, start, output_offset}
use Rattle.oberon_format.specs.Fields.{sent_below}
use Rattle.oberon_format.specs.ByteFields.{fields_of, page_id_of}

-- each member of a list is as its index says
abbrev pub EachAt : {X : Type 0} → (ℕ → X → Type 0) → List X → Type 0
EachAt {X} P xs = (i : ℕ) (d : X) → i < length xs → P i (slice_index_or xs i d)

-- n words of the part at an offset, from an offset in this part on
unfoldable pub words_from : List ℕ → ℕ → ℕ → ℕ → List ℕ
words_from bytes offset from n = map (λ i. word_at bytes (offset + (from + 4 * i))) (range_with_len 0 n)

-- the words of page p
abbrev pub page_at : List ℕ → ℕ → List ℕ
page_at bytes p = words_from bytes (page_offset p) 0 256

-- an event is at an offset: its count, its kind and its value
pub record IsEvent (bytes : List ℕ) (offset : ℕ) (e : Event) : Type 0 where
  pub count : long_at bytes offset ≡ e.count
  pub kind : word_at bytes (offset + KIND_AT) ≡ kind_of e.input
  pub value : word_at bytes (offset + VALUE_AT) ≡ value_of e.input

abbrev pub IsEventAt : List ℕ → ℕ → Event → Type 0
IsEventAt bytes i e = IsEvent bytes (event_offset bytes i) e

-- the processor of the checkpoint at an offset
abbrev pub cpu_at : List ℕ → ℕ → CpuState
cpu_at bytes offset = record {
  r = words_from bytes offset REGISTERS_AT 16;
  h = word_at bytes (offset + H_AT);
  pc = word_at bytes (offset + PC_AT);
  flags = flags_of (word_at bytes (offset + FLAGS_AT));
  stop = word_at bytes (offset + STOP_AT);
}

-- the devices of the checkpoint at an offset, but for the disk's answer
abbrev pub fixed_devices_at : List ℕ → ℕ → DeviceState
fixed_devices_at bytes offset =
    state_of_parts
    (word_at bytes (offset + TIMER_AT))
    (word_since_2 bytes (offset + RATE_AT))
    (word_since_2 bytes (offset + PHASE_AT))
    (word_at bytes (offset + SWITCHES_AT))
    (word_at bytes (offset + LEDS_AT))
    (word_at bytes (offset + MOUSE_AT))
    (word_at bytes (offset + SERIAL_AT))
    (slice_range bytes (offset + KEYS_AT) (offset + KEYS_AT + word_at bytes (offset + WAITING_AT)))

-- the devices of the checkpoint at an offset
abbrev pub devices_at : List ℕ → ℕ → DeviceState
devices_at bytes offset = record (fixed_devices_at bytes offset) { disk = disk_at bytes offset }

-- the table of checkpoint k
unfoldable pub table_at : List ℕ → ℕ → List ℕ
table_at bytes k = map (page_id_of bytes k) (range_with_len 0 PAGE_SLOTS)

-- the checkpoint at an offset with its table, whose output begins at an offset
abbrev pub checkpoint_from : List ℕ → ℕ → ℕ → List ℕ → CheckpointParts
checkpoint_from bytes offset from table = record {
  count = long_at bytes offset;
  cpu = cpu_at bytes offset;
  devices = devices_at bytes offset;
  sent = slice_range bytes from (from + word_at bytes (offset + SENT_AT));
  table = table;
}

-- checkpoint k
abbrev pub decoded : List ℕ → ℕ → CheckpointParts
decoded bytes k = checkpoint_from bytes (start bytes k) (output_offset bytes + sent_below (fields_of bytes) k) (table_at bytes k)

-- the first n pages and the first n checkpoints
abbrev pub pages_at : List ℕ → ℕ → List (List ℕ)
pages_at bytes n = map (page_at bytes) (range_with_len 0 n)

abbrev pub checkpoints_at : List ℕ → ℕ → List CheckpointParts
checkpoints_at bytes n = map (decoded bytes) (range_with_len 0 n)
