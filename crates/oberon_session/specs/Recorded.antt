-- The recording of a session, or why it has none. Limits, pages and page ids are this project's own choice.
use Rattle.std.specs.Prelude.{ℕ, zero, suc, ◌+◌, ◌-◌, nat_lt, List, length, map, slice_index, slice_set, Option, Some, None}
use Rattle.std.specs.Prelude.{if◌then◌else◌}
use Rattle.std.specs.List.{range_with_len}
use Rattle.std.specs.Option.{option_or}
use Rattle.risc_pages.specs.Tables.{table_words, zero_numbers}
use Rattle.risc_devices.specs.DeviceState.{DeviceState, zero_devices}
use Rattle.risc_model.specs.MachineState.{State}
use Rattle.risc_model.specs.OneRun.{sent_between, state_from}
use Rattle.recording_limits.specs.declared.limits.TheConstants.{MAX_OUTPUT, MAX_PAGES}
use Rattle.oberon_format.specs.CheckpointParts.{CheckpointParts}
use Rattle.oberon_format.specs.Recording.{RecordingParts}
use Rattle.oberon_session.specs.Digits.{PlacedWords}
use Rattle.oberon_session.specs.Stored.{Stored, store}
use Rattle.oberon_session.specs.SessionParts.{SessionParts, slots_in}
use Rattle.oberon_session.specs.declared.record_fault.RecordFault.{RecordFault}
use Rattle.oberon_session.specs.declared.record_fault.RecordFault.TheVariants as fault

-- ---- the initial state

-- the table with page ids 1 to n in the slots of the first n pages, and 0 in all others
unfoldable pub numbered : List PlacedWords → ℕ → List ℕ
numbered pages zero = zero_numbers
numbered pages (suc n) = slice_set (numbered pages n) (slice_index (slots_in pages) n) (suc n)

-- a session's pages in their order, and the table that has page id i + 1 in the slot of page i
unfoldable pub first_stored : List PlacedWords → Stored
first_stored pages = record { pool = map (λ page. page.words) pages; table = numbered pages (length pages) }

-- devices that are all zeros, with no keys, except the timer's rate and phase, and the disk's last answer
abbrev pub first_devices : ℕ → ℕ → ℕ → DeviceState
first_devices rate phase disk = record zero_devices { rate = rate; phase = phase; disk = disk }

-- the initial state of the session
unfoldable pub first_state : SessionParts → State
first_state s = record {
  cpu = s.cpu;
  devices = first_devices s.rate s.phase s.disk;
  words = table_words (first_stored s.pages).pool (first_stored s.pages).table;
}

-- ---- the one run from the initial state

-- the state at a count
abbrev pub state_at : SessionParts → ℕ → State
state_at s n = state_from s.inputs (first_state s) n

-- the bytes sent from one count up to another
abbrev pub output_between : SessionParts → ℕ → ℕ → List ℕ
output_between s from to = sent_between s.inputs (first_state s) from to

-- the bytes sent up to a count
abbrev pub output_up_to : SessionParts → ℕ → List ℕ
output_up_to s n = output_between s 0 n

-- ---- the checkpoints

-- the count of checkpoint k, 0 for checkpoint 0
unfoldable pub count_of : SessionParts → ℕ → ℕ
count_of s zero = 0
count_of s (suc k) = slice_index s.counts k

-- the state at checkpoint k
abbrev pub state_of : SessionParts → ℕ → State
state_of s k = state_at s (count_of s k)

-- the pool and the table of checkpoint k: the memory of each checkpoint is stored after that of the previous one
unfoldable pub stored_of : SessionParts → ℕ → Stored
stored_of s zero = first_stored s.pages
stored_of s (suc k) = store (state_of s k).words (state_of s (suc k)).words (stored_of s k)

-- checkpoint k: the state at its count, and the bytes sent since the previous checkpoint
unfoldable pub checkpoint_of : SessionParts → ℕ → CheckpointParts
checkpoint_of s k = record {
  count = count_of s k;
  cpu = (state_of s k).cpu;
  devices = (state_of s k).devices;
  sent = output_between s (count_of s (k - 1)) (count_of s k);
  table = (stored_of s k).table;
}

-- the number of the last checkpoint
abbrev pub last_of : SessionParts → ℕ
last_of s = length s.counts

-- the recording: the pages of all checkpoints, the session's inputs, and checkpoints 0 to K
unfoldable pub recording_of : SessionParts → RecordingParts
recording_of s = record {
  pool = (stored_of s (last_of s)).pool;
  inputs = s.inputs;
  checkpoints = map (checkpoint_of s) (range_with_len 0 (last_of s + 1));
}

-- ---- faults

-- why a recording cannot have checkpoint k: too many bytes are sent up to it, or else too many pages are needed
unfoldable pub fault_at : SessionParts → ℕ → Option RecordFault
fault_at s k =
    if nat_lt MAX_OUTPUT (length (output_up_to s (count_of s k))) then Some fault.Output
    else if nat_lt MAX_PAGES (length (stored_of s k).pool) then Some fault.Pages
    else None

-- the fault at the first of the checkpoints 1 to k that has one
unfoldable pub first_fault : SessionParts → ℕ → Option RecordFault
first_fault s zero = None
first_fault s (suc k) = option_or (first_fault s k) (fault_at s (suc k))

-- why the session has no recording, if it has none
unfoldable pub record_fault_of : SessionParts → Option RecordFault
record_fault_of s = first_fault s (last_of s)
