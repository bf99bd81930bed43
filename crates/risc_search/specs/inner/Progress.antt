-- Where a search is.
use Rattle.std.specs.Prelude.{ℕ, ◌≤◌, List}
use Rattle.risc_model.specs.declared.event.Event.{Event}
use Rattle.risc_search.specs.declared.search.Progress.{Progress}
use Rattle.risc_search.specs.inner.Due.{IsQuiet}

-- it is in its range, and no input comes before the one that it has noted as the next
pub record IsInRange (es : List Event) (to : ℕ) (progress : Progress) : Type 0 where
  pub later : progress.at ≤ progress.due
  pub inside : progress.due ≤ to
  pub quiet : IsQuiet es progress.at progress.due
