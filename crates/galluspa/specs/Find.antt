-- One search through a run of a machine in the memory of a caller.
use Rattle.std.specs.Prelude.{ℕ, ◌≡◌, ◌≤◌, List, Option, length}
use Rattle.risc_model.specs.declared.event.Event.{Event}
use Rattle.risc_search.specs.declared.condition.Clause.{Clause}
use Rattle.risc_search.specs.declared.hit.Hit.{Hit}
use Rattle.risc_search.specs.declared.search.TheConstants.{MAX_CONDITIONS}
use Rattle.risc_search.specs.Search.{IsFirst, IsLast}
use Rattle.galluspa.specs.declared.conditions.RawCondition.{RawCondition}
use Rattle.galluspa.specs.declared.raw.RawInput.{RawInput}
use Rattle.galluspa.specs.declared.raw.RawState.{RawState}
use Rattle.galluspa.specs.Advance.{IsInRange}
use Rattle.galluspa.specs.Conditions.{AreClauses, AreConditions}
use Rattle.galluspa.specs.Raw.{AreEvents, state_of}

-- all that a search is given is in its range: what a run is given, at most 64 conditions, and 0 or 1 for what is wanted
pub record IsInSearchRange (inputs : List RawInput) (to : ℕ) (state : RawState) (words : List ℕ) (raws : List RawCondition)
    (wanted : ℕ) : Type 0 where
  pub run : IsInRange inputs to state words
  pub conditions : AreConditions raws
  pub few : length raws ≤ MAX_CONDITIONS
  pub which : wanted ≤ 1

-- a search from the count of a state up to, but not including, a later count, for the first count at which a condition holds if 0
-- is wanted, and for the last if 1 is
pub record HasSearched (inputs : List RawInput) (to : ℕ) (state : RawState) (words : List ℕ) (raws : List RawCondition)
    (wanted : ℕ) (found : Option Hit) : Type 0 where
  pub events : List Event
  pub are_events : AreEvents inputs events
  pub conditions : List Clause
  pub are_conditions : AreClauses raws conditions
  pub forward : state.count ≤ to
  pub first : wanted ≡ 0 → IsFirst conditions events state.count to (state_of state words) found
  pub last : wanted ≡ 1 → IsLast conditions events state.count to (state_of state words) found
