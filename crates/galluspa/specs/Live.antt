-- The past of a live machine behind a handle: what a caller's inputs and a run make of it (this project's own choice).
use Rattle.std.specs.Prelude.{ℕ, ◌≡◌, List}
use Rattle.risc_model.specs.declared.event.Event.{Event}
use Rattle.oberon_past.specs.declared.progress.Ending.{Ending}
use Rattle.oberon_past.specs.declared.progress.Progress.{Progress}
use Rattle.oberon_past.specs.Live.{AreNext, HasInputs, HasRun}
use Rattle.oberon_past.specs.Past.{PastParts}
use Rattle.galluspa.specs.declared.raw.RawInput.{RawInput}
use Rattle.galluspa.specs.Raw.{AreEvents}

-- a caller's inputs are in their ranges and in order, and come next in a past
pub record ComeNext (inputs : List RawInput) (p : PastParts) : Type 0 where
  pub events : List Event
  pub are_events : AreEvents inputs events
  pub next : AreNext p events

-- the past with a caller's inputs added
pub record TakesInputs (inputs : List RawInput) (old new : PastParts) : Type 0 where
  pub events : List Event
  pub are_events : AreEvents inputs events
  pub taken : HasInputs old events new

-- a past ran on, up to the count `to` if there is no reason to end before it, and sent these bytes on the way
pub record RunsOn (to room : ℕ) (sent : List ℕ) (ending : Ending) (old new : PastParts) : Type 0 where
  pub progress : Progress
  pub ran : HasRun old to room new progress
  pub sent_is : sent ≡ progress.sent.items
  pub ending_is : progress.ending ≡ ending
