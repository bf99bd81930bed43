-- The fields of the file that encodes the parts of a recording, lawful or not, and the first fault of such a file.
use Rattle.std.specs.Prelude.{ℕ, zero, suc, ◌+◌, ◌==◌, ◌||◌, if◌then◌else◌, List, [], ◌∷◌, ◌++◌, map, length, slice_index, slice_index_or, Option}
use Rattle.risc_core.specs.Flags.{flags_number}
use Rattle.risc_devices.specs.DeviceState.{serial_number}
use Rattle.risc_devices.specs.declared.disk.TheConstants.{UNANSWERED}
use Rattle.risc_devices.specs.Input.{kind_of, value_of}
use Rattle.risc_model.specs.declared.event.Event.{Event}
use Rattle.oberon_format.specs.Changes.{changes, no_change}
use Rattle.oberon_format.specs.CheckpointParts.{CheckpointParts, key_bytes}
use Rattle.oberon_format.specs.declared.fault.Fault.{Fault}
use Rattle.oberon_format.specs.declared.fault.Fault.TheVariants as fault
use Rattle.oberon_format.specs.declared.fields.CheckpointFields.{CheckpointFields}
use Rattle.oberon_format.specs.declared.layout.TheConstants.{MAGIC, FIRST_VERSION, VERSION, VERSION_WITH_DISK}
use Rattle.oberon_format.specs.Fields.{EventFields, Fields}
use Rattle.oberon_format.specs.FirstFault.{Rule, each, first_broken}
use Rattle.oberon_format.specs.Layout.{event_start, checkpoint_len}
use Rattle.oberon_format.specs.Recording.{RecordingParts, checkpoint_at, table_before, output_of}
use Rattle.oberon_format.specs.Rules.{rules}

abbrev pub event_fields : Event → EventFields
event_fields e = record { count = e.count; kind = kind_of e.input; value = value_of e.input }

abbrev pub no_event : EventFields
no_event = record { count = 0; kind = 0; value = 0 }

-- the number of changes that a checkpoint has in a version, after a table
abbrev pub changes_in : ℕ → List ℕ → CheckpointParts → ℕ
changes_in version before c = if version == FIRST_VERSION then 0 else length (changes before c.table)

-- the fields that a checkpoint has in a version, after a table
abbrev pub checkpoint_fields : ℕ → List ℕ → CheckpointParts → CheckpointFields
checkpoint_fields version before c = record {
  count = c.count;
  pc = c.cpu.pc;
  flags = flags_number c.cpu.flags;
  stop = c.cpu.stop;
  switches = c.devices.switches;
  leds = c.devices.leds;
  mouse = c.devices.mouse;
  serial = serial_number c.devices;
  waiting = length c.devices.keys;
  keys = key_bytes c.devices;
  output = length c.sent;
  rate = c.devices.rate;
  phase = c.devices.phase;
  changes = changes_in version before c;
}

-- the offset of checkpoint k of parts in a version: the checkpoints follow the events, one after another
unfoldable pub start_in : ℕ → RecordingParts → ℕ → ℕ
start_in version r zero = event_start (length r.pool) (length r.inputs)
start_in version r (suc k) =
    start_in version r k + checkpoint_len version (changes_in version (table_before r.checkpoints k) (checkpoint_at r k))

-- the fields of the file of these parts in a version. A number that is too large for its field breaks that field's rule
abbrev pub fields_in : ℕ → RecordingParts → Fields
fields_in version r = record {
  long = start_in version r (length r.checkpoints) + length (output_of r.checkpoints);
  first = MAGIC;
  version = version;
  pages = length r.pool;
  events = length r.inputs;
  checkpoints = length r.checkpoints;
  last = 0;
  event = λ i. slice_index_or (map event_fields r.inputs) i no_event;
  start = start_in version r;
  checkpoint = λ k. checkpoint_fields version (table_before r.checkpoints k) (checkpoint_at r k);
  change = λ k i. slice_index_or (changes (table_before r.checkpoints k) (checkpoint_at r k).table) i no_change;
  page_id = λ k. slice_index (checkpoint_at r k).table;
}

-- checkpoint k has no answer of a disk, if the version has no field for it
abbrev pub answer_rules : ℕ → RecordingParts → ℕ → List (Rule Fault)
answer_rules version r k =
    (version == VERSION_WITH_DISK || (checkpoint_at r k).devices.disk == UNANSWERED, fault.Checkpoint (start_in version r k)) ∷ []

-- the first fault of these parts in a version, if they have one: that of their file, or else that of the first checkpoint with an
-- answer of a disk for which the version has no field. An input that is one breaks the rule of its event in such a version
abbrev pub fault_in : ℕ → RecordingParts → Option Fault
fault_in version r = first_broken (rules (fields_in version r) ++ each (length r.checkpoints) (answer_rules version r))

-- in version 2, which is that of a recording without a disk, and in version 3
abbrev pub fault_of_parts : RecordingParts → Option Fault
fault_of_parts r = fault_in VERSION r

abbrev pub fault_of_parts_with_disk : RecordingParts → Option Fault
fault_of_parts_with_disk r = fault_in VERSION_WITH_DISK r
