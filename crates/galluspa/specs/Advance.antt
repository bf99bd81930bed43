-- One run of a machine in the memory of a caller.
use Rattle.std.specs.Prelude.{ℕ, ◌≡◌, ◌<◌, ◌≤◌, ◌-◌, List, length}
use Rattle.risc_model.specs.declared.event.Event.{Event}
use Rattle.risc_model.specs.Replay.{run_of, sent_of}
use Rattle.galluspa.specs.declared.raw.RawState.{RawState}
use Rattle.galluspa.specs.declared.raw.RawInput.{RawInput}
use Rattle.galluspa.specs.Raw.{AreEvents, AreInOrder, IsWhole, state_of}

-- all that a run is given is in its range: a state with its words, a count that is not below the state's, and inputs in order
pub record IsInRange (inputs : List RawInput) (to : ℕ) (state : RawState) (words : List ℕ) : Type 0 where
  pub is_whole : IsWhole state words
  pub forward : state.count ≤ to
  pub in_order : AreInOrder inputs

-- one run from the count of a state up to a later count, with these inputs: the state after it, and the bytes that it sends
pub record HasRun (inputs : List RawInput) (to : ℕ) (old : RawState) (old_words : List ℕ) (new : RawState) (new_words sent : List ℕ)
    : Type 0 where
  pub events : List Event
  pub are_events : AreEvents inputs events
  pub forward : old.count ≤ to
  pub count_is : new.count ≡ to
  pub state_is : state_of new new_words ≡ run_of events old.count (to - old.count) (state_of old old_words)
  pub sent_is : sent ≡ sent_of events old.count (to - old.count) (state_of old old_words)

-- the run sends more bytes than there is room for
pub record SendsMore (inputs : List RawInput) (to : ℕ) (old : RawState) (old_words : List ℕ) (room : ℕ) : Type 0 where
  pub events : List Event
  pub are_events : AreEvents inputs events
  pub forward : old.count ≤ to
  pub more : room < length (sent_of events old.count (to - old.count) (state_of old old_words))
