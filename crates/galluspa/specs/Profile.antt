-- How often a run does each instruction, in the memory of a caller.
use Rattle.std.specs.Prelude.{ℕ, ◌≡◌, ◌-◌, ◌<◌, ◌≤◌, List, length, slice_index}
use Rattle.risc_model.specs.declared.event.Event.{Event}
use Rattle.risc_model.specs.Visits.{visits, departures}
use Rattle.risc_pages.specs.declared.sizes.TheConstants.{MEMORY_WORDS}
use Rattle.galluspa.specs.declared.raw.RawInput.{RawInput}
use Rattle.galluspa.specs.declared.raw.RawState.{RawState}
use Rattle.galluspa.specs.Advance.{IsInRange}
use Rattle.galluspa.specs.Raw.{AreEvents, state_of}

-- all that a profile is given is in its range: what a run is given, and a number for each word of memory, twice
pub record IsInProfileRange (inputs : List RawInput) (to : ℕ) (state : RawState) (words visits departures : List ℕ) : Type 0 where
  pub run : IsInRange inputs to state words
  pub for_visits : length visits ≡ MEMORY_WORDS
  pub for_departures : length departures ≡ MEMORY_WORDS

-- one run from the count of a state up to a later count, with these inputs: for each word of memory, how often its instruction is
-- done, and how often it leads elsewhere than to the next word
pub record HasProfiled (inputs : List RawInput) (to : ℕ) (state : RawState) (words numbers leaving : List ℕ) : Type 0 where
  pub events : List Event
  pub are_events : AreEvents inputs events
  pub forward : state.count ≤ to
  pub visits_are : (p : ℕ) → p < MEMORY_WORDS →
      slice_index numbers p ≡ visits p events state.count (to - state.count) (state_of state words)
  pub departures_are : (p : ℕ) → p < MEMORY_WORDS →
      slice_index leaving p ≡ departures p events state.count (to - state.count) (state_of state words)
