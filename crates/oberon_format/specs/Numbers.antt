-- Each length, offset and limit by its value, so that a mistyped number cannot change a definition unnoticed. All are this
-- project's own choice, except the end of program counters. The limits of whole recordings are in `recording_limits`.
use Rattle.std.specs.Prelude.{◌≡◌, ◌^◌}
use Rattle.risc_core.specs.declared.branch.TheConstants.{COUNTER_END}
use Rattle.risc_model.specs.declared.inputs.TheConstants.{MAX_COUNT}
use Rattle.risc_pages.specs.declared.sizes.TheConstants.{PAGE_SLOTS}
use Rattle.oberon_format.specs.declared.layout.TheConstants.{MAGIC, FIRST_VERSION, VERSION, VERSION_WITH_DISK, HEADER_LEN}
use Rattle.oberon_format.specs.declared.layout.TheConstants.{PAGE_LEN, EVENT_LEN, CHECKPOINT_LEN, COMMON_LEN, CHANGE_LEN, DISK_LEN, MAGIC_AT}
use Rattle.oberon_format.specs.declared.layout.TheConstants.{VERSION_AT, PAGES_AT, EVENTS_AT, CHECKPOINTS_AT, LAST_AT, KIND_AT}
use Rattle.oberon_format.specs.declared.layout.TheConstants.{VALUE_AT, PAGE_ID_AT, REGISTERS_AT, H_AT, PC_AT, FLAGS_AT}
use Rattle.oberon_format.specs.declared.layout.TheConstants.{STOP_AT, TIMER_AT, SWITCHES_AT, LEDS_AT, MOUSE_AT, SERIAL_AT}
use Rattle.oberon_format.specs.declared.layout.TheConstants.{WAITING_AT, KEYS_AT, SENT_AT, TABLE_AT, RATE_AT, PHASE_AT}
use Rattle.oberon_format.specs.declared.layout.TheConstants.{CHANGE_COUNT_AT, CHANGES_AT, LONGEST_RECORDING, LONGEST_WITH_DISK}
use Rattle.oberon_format.specs.declared.ranges.TheConstants.{MAX_CHECKPOINTS, FLAGS_END, MAX_STOP, SWITCHES_END, LEDS_END}
use Rattle.oberon_format.specs.declared.ranges.TheConstants.{SERIAL_END, MAX_KEYS}

-- the magic, the versions, and the lengths of the parts of a file
pub record HasLengths : Type 0 where
  pub magic : MAGIC ≡ 1381192271
  pub first_version : FIRST_VERSION ≡ 1
  pub version : VERSION ≡ 2
  pub version_with_disk : VERSION_WITH_DISK ≡ 3
  pub header_len : HEADER_LEN ≡ 24
  pub page_len : PAGE_LEN ≡ 1024
  pub event_len : EVENT_LEN ≡ 16
  pub checkpoint_len : CHECKPOINT_LEN ≡ 4228
  pub common_len : COMMON_LEN ≡ 132
  pub change_len : CHANGE_LEN ≡ 8
  pub disk_len : DISK_LEN ≡ 4
  pub page_slots : PAGE_SLOTS ≡ 1024
  pub longest_recording : LONGEST_RECORDING ≡ 118310056
  pub longest_with_disk : LONGEST_WITH_DISK ≡ 166326444

-- the offsets of the numbers of a header, and of the fields of an event and of a change from their starts
pub record HasHeaderOffsets : Type 0 where
  pub magic_at : MAGIC_AT ≡ 0
  pub version_at : VERSION_AT ≡ 4
  pub pages_at : PAGES_AT ≡ 8
  pub events_at : EVENTS_AT ≡ 12
  pub checkpoints_at : CHECKPOINTS_AT ≡ 16
  pub last_at : LAST_AT ≡ 20
  pub kind_at : KIND_AT ≡ 8
  pub value_at : VALUE_AT ≡ 12
  pub page_id_at : PAGE_ID_AT ≡ 4

-- the offsets of the fields of a checkpoint, from its start
pub record HasCheckpointOffsets : Type 0 where
  pub registers_at : REGISTERS_AT ≡ 8
  pub h_at : H_AT ≡ 72
  pub pc_at : PC_AT ≡ 76
  pub flags_at : FLAGS_AT ≡ 80
  pub stop_at : STOP_AT ≡ 84
  pub timer_at : TIMER_AT ≡ 88
  pub switches_at : SWITCHES_AT ≡ 92
  pub leds_at : LEDS_AT ≡ 96
  pub mouse_at : MOUSE_AT ≡ 100
  pub serial_at : SERIAL_AT ≡ 104
  pub waiting_at : WAITING_AT ≡ 108
  pub keys_at : KEYS_AT ≡ 112
  pub sent_at : SENT_AT ≡ 128
  pub table_at : TABLE_AT ≡ 132
  pub rate_at : RATE_AT ≡ 132
  pub phase_at : PHASE_AT ≡ 136
  pub change_count_at : CHANGE_COUNT_AT ≡ 140
  pub changes_at : CHANGES_AT ≡ 144

-- the limits of fields
pub record HasFieldLimits : Type 0 where
  pub max_checkpoints : MAX_CHECKPOINTS ≡ 4097
  pub flags_end : FLAGS_END ≡ 16
  pub max_stop : MAX_STOP ≡ 4
  pub switches_end : SWITCHES_END ≡ 4096
  pub leds_end : LEDS_END ≡ 256
  pub serial_end : SERIAL_END ≡ 512
  pub max_keys : MAX_KEYS ≡ 16
  pub max_count : MAX_COUNT ≡ 2 ^ 40
  pub counter_end : COUNTER_END ≡ 2 ^ 22

-- all of them
pub record HasNumbers : Type 0 where
  pub lengths : HasLengths
  pub header : HasHeaderOffsets
  pub checkpoint : HasCheckpointOffsets
  pub fields : HasFieldLimits
