-- What each instruction of a run does, in the memory of a caller.
use Rattle.std.specs.Prelude.{ℕ, ◌≡◌, ◌+◌, ◌<◌, ◌≤◌, ◌^◌, ◌==◌, List, None, Some, length, slice_index_or, if◌then◌else◌}
use Rattle.risc_model.specs.declared.event.Event.{Event}
use Rattle.risc_model.specs.MachineState.{State}
use Rattle.risc_model.specs.Replay.{run_of}
use Rattle.risc_search.specs.declared.effect.Effect.{Effect}
use Rattle.risc_search.specs.Effects.{IsEffect}
use Rattle.galluspa.specs.declared.raw.RawInput.{RawInput}
use Rattle.galluspa.specs.declared.raw.RawState.{RawState}
use Rattle.galluspa.specs.declared.records.RawRecord.{RawRecord}
use Rattle.galluspa.specs.Raw.{AreDevices, AreEvents, AreInOrder, IsCpu, IsPadded, IsWhole, cpu_of, devices_of, state_of}

-- what a record says that its instruction does
abbrev pub effect_of : RawRecord → Effect
effect_of r = record {
  word = if r.has_word == 1 then Some r.word else None;
  accessed = if r.access_bytes == 0 then None else Some (record {
    access = record { stores = r.stores == 1; first = r.address; count = r.access_bytes };
    old = r.old_value;
    new = r.new_value;
  });
  sent = if r.sends == 1 then Some r.sent else None;
  inputs_from = r.inputs_from;
  inputs_count = r.inputs_count;
}

-- the numbers of a record: what says yes or no is 1 or 0, and what says nothing is 0
pub record IsPlain (r : RawRecord) : Type 0 where
  pub bits : (r.has_word ≤ 1) × (r.stores ≤ 1) × (r.sends ≤ 1)
  pub no_word : r.has_word ≡ 0 → r.word ≡ 0
  pub no_access : r.access_bytes ≡ 0 → (r.stores ≡ 0) × (r.address ≡ 0) × (r.old_value ≡ 0) × (r.new_value ≡ 0)
  pub nothing_sent : r.sends ≡ 0 → r.sent ≡ 0

-- the record of the step of a count from a state: the state before it without its memory, each number in its range, and what the step
-- does
pub record IsRecord (r : RawRecord) (es : List Event) (n : ℕ) (s : State) : Type 0 where
  pub count_is : r.state.count ≡ n
  pub cpu_is : cpu_of r.state ≡ s.cpu
  pub devices_are : devices_of r.state ≡ s.devices
  pub cpu : IsCpu r.state
  pub devices : AreDevices r.state
  pub padded : IsPadded r.state
  pub effect : IsEffect (effect_of r) es n s
  pub plain : IsPlain r

-- the first records of a list are those of the counts of a run, from a count and a state on
abbrev pub AreRecorded : ℕ → List RawRecord → List Event → ℕ → State → Type 0
AreRecorded count records es from s =
    (i : ℕ) (d : RawRecord) → i < count → IsRecord (slice_index_or records i d) es (from + i) (run_of es from i s)

-- all that is given is in its range: a state with its words, inputs in order, and so few records that each count fits
pub record IsInRecordsRange (inputs : List RawInput) (state : RawState) (words : List ℕ) (records : List RawRecord) : Type 0 where
  pub is_whole : IsWhole state words
  pub in_order : AreInOrder inputs
  pub short : state.count + length records < 2 ^ 64

-- one run from the count of a state on, with these inputs: the record of each of its counts, and the state after it
pub record HasRecorded (inputs : List RawInput) (old : RawState) (old_words : List ℕ) (new : RawState) (new_words : List ℕ)
    (records : List RawRecord) : Type 0 where
  pub events : List Event
  pub are_events : AreEvents inputs events
  pub each : AreRecorded (length records) records events old.count (state_of old old_words)
  pub count_is : new.count ≡ old.count + length records
  pub state_is : state_of new new_words ≡ run_of events old.count (length records) (state_of old old_words)

-- the records of the first counts of a run, as many as there may be; the rest of the list is as it was
pub record AreFirstRecorded (events : List Event) (from : ℕ) (s : State) (old new : List RawRecord) : Type 0 where
  pub count : ℕ
  pub each : AreRecorded count new events from s
  pub rest : (i : ℕ) (d : RawRecord) → count ≤ i → slice_index_or new i d ≡ slice_index_or old i d

-- so in the run from the count of a state on, with these inputs
pub record HasRecordedFirst (inputs : List RawInput) (state : RawState) (words : List ℕ) (old new : List RawRecord) : Type 0 where
  pub events : List Event
  pub are_events : AreEvents inputs events
  pub first : AreFirstRecorded events state.count (state_of state words) old new
