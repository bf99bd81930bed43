-- The fields of a file, and its first fault.
use Rattle.std.specs.Prelude.{ℕ, zero, suc, ◌≡◌, ◌+◌, ◌==◌, if◌then◌else◌, List, ◌++◌, length, slice_range, Option, MatchOption, Result}
use Rattle.std.specs.Prelude.{Err, MatchResult}
use Rattle.oberon_format.specs.declared.change.Change.{Change}
use Rattle.oberon_format.specs.declared.fault.Fault.{Fault}
use Rattle.oberon_format.specs.declared.fault.Fault.TheVariants as fault
use Rattle.oberon_format.specs.declared.fields.CheckpointFields.{CheckpointFields}
use Rattle.oberon_format.specs.declared.layout.TheConstants.{FIRST_VERSION, MAGIC_AT, LAST_AT, KIND_AT, VALUE_AT, PC_AT}
use Rattle.oberon_format.specs.declared.layout.TheConstants.{FLAGS_AT, STOP_AT, SWITCHES_AT, LEDS_AT, MOUSE_AT, SERIAL_AT}
use Rattle.oberon_format.specs.declared.layout.TheConstants.{WAITING_AT, KEYS_AT, SENT_AT, RATE_AT, PHASE_AT, PAGE_ID_AT}
use Rattle.oberon_format.specs.Changes.{page_id_after}
use Rattle.oberon_format.specs.Fields.{EventFields, Fields}
use Rattle.oberon_format.specs.FirstFault.{first_broken}
use Rattle.oberon_format.specs.Layout.{word_at, long_at, version, pages, events, checkpoints, page_id_offset, change_offset}
use Rattle.oberon_format.specs.Layout.{event_offset, word_since_2, change_count, start}
use Rattle.oberon_format.specs.Rules.{rules, version_rules}

-- the event at an offset
abbrev pub event_of : List ℕ → ℕ → EventFields
event_of bytes offset = record {
  count = long_at bytes offset;
  kind = word_at bytes (offset + KIND_AT);
  value = word_at bytes (offset + VALUE_AT);
}

-- the fields of the checkpoint at an offset. In version 1 the rate and the phase of its timer are 0, and it has no changes
abbrev pub checkpoint_of : List ℕ → ℕ → CheckpointFields
checkpoint_of bytes offset = record {
  count = long_at bytes offset;
  pc = word_at bytes (offset + PC_AT);
  flags = word_at bytes (offset + FLAGS_AT);
  stop = word_at bytes (offset + STOP_AT);
  switches = word_at bytes (offset + SWITCHES_AT);
  leds = word_at bytes (offset + LEDS_AT);
  mouse = word_at bytes (offset + MOUSE_AT);
  serial = word_at bytes (offset + SERIAL_AT);
  waiting = word_at bytes (offset + WAITING_AT);
  keys = slice_range bytes (offset + KEYS_AT) (offset + SENT_AT);
  output = word_at bytes (offset + SENT_AT);
  rate = word_since_2 bytes (offset + RATE_AT);
  phase = word_since_2 bytes (offset + PHASE_AT);
  changes = change_count bytes offset;
}

-- the change at an offset
abbrev pub change_at : List ℕ → ℕ → Change
change_at bytes offset = record { slot = word_at bytes offset; page_id = word_at bytes (offset + PAGE_ID_AT) }

-- change i of the checkpoint of version 2 or 3 at an offset
abbrev pub change_of : List ℕ → ℕ → ℕ → Change
change_of bytes offset i = change_at bytes (change_offset offset i)

-- the page id in slot p before checkpoint k of a file of version 2 or 3: at first 0, then what the changes of the checkpoint before
-- left
unfoldable pub page_id_before : List ℕ → ℕ → ℕ → ℕ
page_id_before bytes zero p = 0
page_id_before bytes (suc k) p =
    page_id_after (change_of bytes (start bytes k)) (page_id_before bytes k) (change_count bytes (start bytes k)) p

-- the page id in slot p of checkpoint k
abbrev pub page_id_of : List ℕ → ℕ → ℕ → ℕ
page_id_of bytes k p =
    if version bytes == FIRST_VERSION then word_at bytes (page_id_offset (start bytes k) p) else page_id_before bytes (suc k) p

-- the fields of a file
abbrev pub fields_of : List ℕ → Fields
fields_of bytes = record {
  long = length bytes;
  first = word_at bytes MAGIC_AT;
  version = version bytes;
  pages = pages bytes;
  events = events bytes;
  checkpoints = checkpoints bytes;
  last = word_at bytes LAST_AT;
  event = λ i. event_of bytes (event_offset bytes i);
  start = start bytes;
  checkpoint = λ k. checkpoint_of bytes (start bytes k);
  change = λ k. change_of bytes (start bytes k);
  page_id = page_id_of bytes;
}

-- the first fault of a file of any version, if it has one
abbrev pub first_fault_with_disk : List ℕ → Option Fault
first_fault_with_disk bytes = first_broken (rules (fields_of bytes))

-- the first fault of a file without a disk, if it has one
abbrev pub first_fault_of : List ℕ → Option Fault
first_fault_of bytes = first_broken (version_rules (fields_of bytes) ++ rules (fields_of bytes))

-- an answer to a file without a disk: if the file has no fault, a good one or an allocation failure; else its first fault
abbrev pub AnswersBytes : {Answer : Type 0} → List ℕ → (Answer → Type 0) → Result Answer Fault → Type 0
AnswersBytes bytes IsGood answer =
    MatchOption (first_fault_of bytes) (MatchResult answer IsGood (λ f. f ≡ fault.Memory)) (λ f. answer ≡ Err f)

-- the same for a file of any version
abbrev pub AnswersBytesWithDisk : {Answer : Type 0} → List ℕ → (Answer → Type 0) → Result Answer Fault → Type 0
AnswersBytesWithDisk bytes IsGood answer =
    MatchOption (first_fault_with_disk bytes) (MatchResult answer IsGood (λ f. f ≡ fault.Memory)) (λ f. answer ≡ Err f)
