-- What the recorder holds after each checkpoint.
use Rattle.std.specs.Prelude.{ℕ, ◌≡◌, ◌≢◌, ◌+◌, ◌-◌, ◌<◌, ◌≤◌, List, length, map, None}
use Rattle.std.specs.List.{range_with_len}
use Rattle.risc_pages.specs.declared.sizes.TheConstants.{MEMORY_WORDS}
use Rattle.risc_pages.specs.Tables.{table_words}
use Rattle.risc_model.specs.declared.event.Event.{Event}
use Rattle.risc_model.specs.MachineState.{State, cpu_state, IsCpuState}
use Rattle.risc_model.specs.Replay.{run_of, sent_of}
use Rattle.oberon_format.specs.CheckpointParts.{CheckpointParts, checkpoint_parts}
use Rattle.oberon_format.specs.Defined.{claim_of}
use Rattle.oberon_format.specs.Recording.{IsLawfulWithDisk, output_of}
use Rattle.oberon_session.specs.Stored.{Stored, changed_page_view, changed_pages, stored_view}
use Rattle.oberon_session.specs.Recorded.{checkpoint_of, count_of, first_fault, stored_of, output_up_to, state_of}
use Rattle.oberon_session.specs.SessionParts.{SessionParts}
use Rattle.oberon_session.specs.declared.record_fault.RecordFault.{RecordFault}
use Rattle.oberon_session.specs.declared.recorder.Recorder.{Recorder}
use Rattle.oberon_session.specs.declared.running.Reached.{Reached}

-- a machine that began with these words ended in this state and sent these bytes, and these are its changes
pub record IsReached (begun : List ℕ) (state : State) (sent : List ℕ) (r : Reached) : Type 0 where
  pub cpu : cpu_state r.cpu ≡ state.cpu
  pub devices : r.devices ≡ state.devices
  pub output : r.sent.items ≡ sent
  pub changed : map changed_page_view r.changed.items ≡ changed_pages begun state.words
  pub range : IsCpuState state.cpu
  pub whole : length state.words ≡ MEMORY_WORDS

-- checkpoints 0 to k of the session
abbrev pub checkpoints_to : SessionParts → ℕ → List CheckpointParts
checkpoints_to s k = map (checkpoint_of s) (range_with_len 0 (k + 1))

-- the content of the table of checkpoint j is the memory of its state
abbrev pub IsContentOf : SessionParts → List (List ℕ) → ℕ → Type 0
IsContentOf s pool j = table_words pool (stored_of s j).table ≡ (state_of s j).words

-- the session is recorded up to checkpoint k, which exceeds no limit
pub record IsRecorded (s : SessionParts) (k : ℕ) (stored : Stored) (checkpoints : List CheckpointParts) (sent : ℕ) : Type 0 where
  pub stored_is : stored ≡ stored_of s k
  pub recorded : checkpoints ≡ checkpoints_to s k
  pub output : output_of checkpoints ≡ output_up_to s (count_of s k)
  pub sent_is : sent ≡ length (output_up_to s (count_of s k))
  pub lawful : IsLawfulWithDisk (record { pool = stored.pool; inputs = s.inputs; checkpoints = checkpoints })
  pub content : (j : ℕ) → j ≤ k → IsContentOf s stored.pool j
  pub no_fault : first_fault s k ≡ None

-- what the recorder holds when the session is recorded up to checkpoint k
abbrev pub HasRecorded : SessionParts → ℕ → Recorder → Type 0
HasRecorded s k r = IsRecorded s k (stored_view r.stored) (map checkpoint_parts r.checkpoints.items) r.sent

-- unless memory ran out, more bytes are sent than there is room for
abbrev pub SendsTooMuch : ℕ → List ℕ → RecordFault → Type 0
SendsTooMuch room sent fault = fault ≢ RecordFault.Memory → (fault ≡ RecordFault.Output) × (room < length sent)

-- the state that checkpoint c claims, over a pool
abbrev pub claimed_state : List (List ℕ) → CheckpointParts → State
claimed_state pool c = (claim_of pool c).state

-- the bytes sent from checkpoint c up to a count
abbrev pub sent_on : List (List ℕ) → List Event → CheckpointParts → ℕ → List ℕ
sent_on pool events c to = sent_of events c.count (to - c.count) (claimed_state pool c)

-- where a machine ended that ran from checkpoint c up to a count
abbrev pub HasReached : List (List ℕ) → List Event → CheckpointParts → ℕ → Reached → Type 0
HasReached pool events c to reached =
    IsReached
    (claimed_state pool c).words
    (run_of events c.count (to - c.count) (claimed_state pool c))
    (sent_on pool events c to)
    reached
