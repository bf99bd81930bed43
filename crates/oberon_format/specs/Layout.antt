-- Offsets of the parts of a file (this project's own format). Numbers are unsigned, lowest byte first, and offsets count bytes
-- from 0. A file is a header of 24 bytes, pages of 1,024, events of 16, the checkpoints, and the output. A checkpoint of version
-- 1 has 4,228 bytes; one of version 2 has 144, and 8 more for each change of its table; one of version 3 has 4 more for the disk's
-- answer. The names of these lengths, and of the offsets of fields, are in the code's module `layout`.
use Rattle.std.specs.Prelude.{ℕ, zero, suc, ◌+◌, ◌*◌, ◌==◌, if◌then◌else◌, List}
use Rattle.byteorder.specs.Endian.{little_from}
use Rattle.oberon_format.specs.declared.layout.TheConstants.{FIRST_VERSION, VERSION_WITH_DISK, HEADER_LEN, PAGE_LEN, EVENT_LEN, CHECKPOINT_LEN}
use Rattle.oberon_format.specs.declared.layout.TheConstants.{CHANGE_LEN, VERSION_AT, PAGES_AT, EVENTS_AT, CHECKPOINTS_AT, TABLE_AT}
use Rattle.oberon_format.specs.declared.layout.TheConstants.{CHANGE_COUNT_AT, CHANGES_AT, DISK_LEN}
use Rattle.risc_devices.specs.declared.disk.TheConstants.{UNANSWERED}

-- the four-byte number at an offset
unfoldable pub word_at : List ℕ → ℕ → ℕ
word_at bytes offset = little_from offset 4 bytes

-- the eight-byte number at an offset
unfoldable pub long_at : List ℕ → ℕ → ℕ
long_at bytes offset = little_from offset 8 bytes

-- the offset of page p
abbrev pub page_offset : ℕ → ℕ
page_offset p = HEADER_LEN + PAGE_LEN * p

-- the offset of event i, after n pages
abbrev pub event_start : ℕ → ℕ → ℕ
event_start pages i = page_offset pages + EVENT_LEN * i

-- the offset of entry j of the table of a checkpoint of version 1, from the checkpoint's offset
abbrev pub page_id_offset : ℕ → ℕ → ℕ
page_id_offset checkpoint j = checkpoint + TABLE_AT + 4 * j

-- the offset of change i of a checkpoint of version 2 or 3, from the checkpoint's offset
abbrev pub change_offset : ℕ → ℕ → ℕ
change_offset checkpoint i = checkpoint + CHANGES_AT + CHANGE_LEN * i

-- the length of the disk's answer, which only version 3 has
abbrev pub disk_len : ℕ → ℕ
disk_len version = if version == VERSION_WITH_DISK then DISK_LEN else 0

-- the length of a checkpoint, from the version and the number of its changes
abbrev pub checkpoint_len : ℕ → ℕ → ℕ
checkpoint_len version changes =
    if version == FIRST_VERSION then CHECKPOINT_LEN else CHANGES_AT + CHANGE_LEN * changes + disk_len version

-- the version of a file, and the numbers of pages, events and checkpoints in its header
abbrev pub version : List ℕ → ℕ
version bytes = word_at bytes VERSION_AT

abbrev pub pages : List ℕ → ℕ
pages bytes = word_at bytes PAGES_AT

abbrev pub events : List ℕ → ℕ
events bytes = word_at bytes EVENTS_AT

abbrev pub checkpoints : List ℕ → ℕ
checkpoints bytes = word_at bytes CHECKPOINTS_AT

-- the offset of event i of a file
abbrev pub event_offset : List ℕ → ℕ → ℕ
event_offset bytes i = event_start (pages bytes) i

-- the word at an offset after the common fields of a checkpoint of version 2 or 3; 0 in a file of version 1, which has no such word
abbrev pub word_since_2 : List ℕ → ℕ → ℕ
word_since_2 bytes offset = if version bytes == FIRST_VERSION then 0 else word_at bytes offset

-- the number of changes of the checkpoint at an offset
abbrev pub change_count : List ℕ → ℕ → ℕ
change_count bytes offset = word_since_2 bytes (offset + CHANGE_COUNT_AT)

-- the disk's answer in the checkpoint at an offset, after its changes; 255 before version 3
abbrev pub disk_at : List ℕ → ℕ → ℕ
disk_at bytes offset =
    if version bytes == VERSION_WITH_DISK then word_at bytes (change_offset offset (change_count bytes offset)) else UNANSWERED

-- the offset of checkpoint k: the checkpoints follow the events, one after another
unfoldable pub start : List ℕ → ℕ → ℕ
start bytes zero = event_offset bytes (events bytes)
start bytes (suc k) = start bytes k + checkpoint_len (version bytes) (change_count bytes (start bytes k))

-- the offset of the output of a file: after the last checkpoint
abbrev pub output_offset : List ℕ → ℕ
output_offset bytes = start bytes (checkpoints bytes)
