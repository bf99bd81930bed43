-- A search for all hits on a machine in the memory of a caller.
use Rattle.std.specs.Prelude.{ℕ, ◌≡◌, ◌-◌, List}
use Rattle.risc_model.specs.declared.event.Event.{Event}
use Rattle.risc_model.specs.Replay.{run_of}
use Rattle.risc_search.specs.declared.condition.Clause.{Clause}
use Rattle.risc_search.specs.declared.hit.Hit.{Hit}
use Rattle.risc_search.specs.Hits.{AreFirstHits}
use Rattle.galluspa.specs.declared.raw.RawState.{RawState}
use Rattle.galluspa.specs.Raw.{IsWritten, state_of}

-- the hits, and the state at the count after them
pub record AreHitsOf (events : List Event) (to : ℕ) (old : RawState) (old_words : List ℕ) (conditions : List Clause) (room : ℕ)
    (new : RawState) (new_words : List ℕ) (hits : List Hit) : Type 0 where
  pub hits_are : AreFirstHits conditions events old.count to (state_of old old_words) room hits new.count
  pub state_is : state_of new new_words ≡ run_of events old.count (new.count - old.count) (state_of old old_words)
  pub written : IsWritten new new_words
