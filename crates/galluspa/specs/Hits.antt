-- One search for all hits through a run of a machine in the memory of a caller.
use Rattle.std.specs.Prelude.{ℕ, ◌≡◌, ◌≤◌, ◌<◌, ◌-◌, List, length}
use Rattle.risc_model.specs.declared.event.Event.{Event}
use Rattle.risc_model.specs.Replay.{run_of}
use Rattle.risc_search.specs.declared.condition.Clause.{Clause}
use Rattle.risc_search.specs.declared.hit.Hit.{Hit}
use Rattle.risc_search.specs.declared.search.TheConstants.{MAX_CONDITIONS}
use Rattle.risc_search.specs.Hits.{AreFirstHits, AreHits}
use Rattle.galluspa.specs.declared.conditions.RawCondition.{RawCondition}
use Rattle.galluspa.specs.declared.raw.RawInput.{RawInput}
use Rattle.galluspa.specs.declared.raw.RawState.{RawState}
use Rattle.galluspa.specs.Advance.{IsInRange}
use Rattle.galluspa.specs.Conditions.{AreClauses, AreConditions}
use Rattle.galluspa.specs.Raw.{AreEvents, state_of}

-- all that such a search is given is in its range: what a run is given, at most 64 conditions, and room for a hit
pub record IsInHitsRange (inputs : List RawInput) (to : ℕ) (state : RawState) (words : List ℕ) (raws : List RawCondition) (room : ℕ)
    : Type 0 where
  pub run : IsInRange inputs to state words
  pub conditions : AreConditions raws
  pub few : length raws ≤ MAX_CONDITIONS
  pub some : 0 < room

-- a search from the count of a state up to, but not including, a later count, with room for some hits: the hits, and the state of the
-- run at the count after them
pub record HasFoundHits (inputs : List RawInput) (to : ℕ) (old : RawState) (old_words : List ℕ) (raws : List RawCondition) (room : ℕ)
    (new : RawState) (new_words : List ℕ) (hits : List Hit) : Type 0 where
  pub events : List Event
  pub are_events : AreEvents inputs events
  pub conditions : List Clause
  pub are_conditions : AreClauses raws conditions
  pub hits_are : AreFirstHits conditions events old.count to (state_of old old_words) room hits new.count
  pub state_is : state_of new new_words ≡ run_of events old.count (new.count - old.count) (state_of old old_words)

-- all hits of the run from the count of a state up to, but not including, another count
pub record AreAllHits (inputs : List RawInput) (state : RawState) (words : List ℕ) (raws : List RawCondition) (next : ℕ)
    (hits : List Hit) : Type 0 where
  pub events : List Event
  pub are_events : AreEvents inputs events
  pub conditions : List Clause
  pub are_conditions : AreClauses raws conditions
  pub hits_are : AreHits conditions events state.count (state_of state words) state.count next hits
