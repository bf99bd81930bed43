-- A past that changes: a branch of it, more inputs, a run that goes on, and a cut. Each is this project's own choice.
use Rattle.std.specs.Prelude.{ℕ, ◌≡◌, ◌⊎◌, ◌+◌, ◌<◌, ◌≤◌, List, All, ◌++◌, filter, length, nat_lt}
use Rattle.risc_model.specs.declared.event.Event.{Event}
use Rattle.risc_model.specs.InputOrder.{AreOrdered}
use Rattle.oberon_past.specs.Run.{Run, sent_between, state_at}
use Rattle.oberon_past.specs.Past.{PastParts, nearest}
use Rattle.oberon_past.specs.declared.fault.PastFault.{PastFault}
use Rattle.oberon_past.specs.declared.fault.PastFault.TheVariants as fault
use Rattle.oberon_past.specs.declared.progress.Ending.{Ending}
use Rattle.oberon_past.specs.declared.progress.Ending.TheVariants as ending
use Rattle.oberon_past.specs.declared.progress.Progress.{Progress}

-- the states of two runs are the same up to a count
abbrev pub AreSameUpTo : ℕ → Run → Run → Type 0
AreSameUpTo n old new = (m : ℕ) → m ≤ n → state_at new m ≡ state_at old m

-- why a count is refused: the past has no such count
abbrev pub IsOutside : PastParts → ℕ → PastFault → Type 0
IsOutside p n fault.Earlier = n < p.run.start
IsOutside p n fault.Later = p.end < n
IsOutside p n _ = ⊥

-- ---- a past up to a count

-- the inputs before a count: those that a run up to it takes
abbrev pub inputs_before : ℕ → List Event → List Event
inputs_before n inputs = filter (λ e. nat_lt e.count n) inputs

-- the past up to a count: the same run, with the inputs before the count, and the keyframes at or before it
pub record IsUpTo (n : ℕ) (old new : PastParts) : Type 0 where
  pub inside : (old.run.start ≤ n) × (n ≤ old.end)
  pub run : new.run ≡ record old.run { inputs = inputs_before n old.run.inputs }
  pub states : AreSameUpTo n old.run new.run
  pub end : new.end ≡ n
  pub spacing : new.spacing ≡ old.spacing
  pub keyframes : new.keyframes ≡ nearest old n + 1
  pub pages : new.pages ≡ old.pages

-- why a branch is refused. Memory can only run out for a count that the past has
abbrev pub IsBranchFault : PastParts → ℕ → PastFault → Type 0
IsBranchFault p n fault.Memory = (p.run.start ≤ n) × (n ≤ p.end)
IsBranchFault p n refused = IsOutside p n refused

-- ---- more inputs

-- inputs that may be added: with those that there are, their counts do not fall and are at most `MAX_COUNT`; and none is before the
-- end of the past
pub record AreNext (p : PastParts) (inputs : List Event) : Type 0 where
  pub ordered : AreOrdered (p.run.inputs ++ inputs)
  pub after : All (λ e. p.end ≤ e.count) inputs

-- the past with these inputs added
pub record HasInputs (old : PastParts) (inputs : List Event) (new : PastParts) : Type 0 where
  pub next : AreNext old inputs
  pub added : new ≡ record old { run = record old.run { inputs = old.run.inputs ++ inputs } }
  pub states : AreSameUpTo old.end old.run new.run

-- why inputs are not added
abbrev pub IsInputFault : PastParts → List Event → PastFault → Type 0
IsInputFault p inputs fault.Order = ¬ (AreNext p inputs)
IsInputFault p inputs fault.Memory = AreNext p inputs
IsInputFault p inputs _ = ⊥

-- ---- a run that goes on

-- why a run from the old end ended at the new one: it came to the count that was asked for; it is to be gone on with, and there is
-- progress; or the next instruction sends a byte for which there is no room
abbrev pub IsEnding : PastParts → PastParts → ℕ → ℕ → Ending → Type 0
IsEnding old new to room ending.Done = new.end ≡ to
IsEnding old new to room ending.More = (new.end < to) × ((old.end < new.end) ⊎ (old.keyframes < new.keyframes))
IsEnding old new to room ending.NoRoom = (new.end < to) × (room < length (sent_between old.run old.end (new.end + 1)))

-- a past ran on to its new end, and sent these bytes on the way
pub record HasRun (old : PastParts) (to room : ℕ) (new : PastParts) (progress : Progress) : Type 0 where
  pub run : new.run ≡ old.run
  pub further : (old.end ≤ new.end) × (new.end ≤ to)
  pub spacing : new.spacing ≡ old.spacing
  pub keyframes : old.keyframes ≤ new.keyframes
  pub pages : old.pages ≤ new.pages
  pub sent : progress.sent.items ≡ sent_between old.run old.end new.end
  pub fits : length progress.sent.items ≤ room
  pub ending : IsEnding old new to room progress.ending

-- why a run is refused: it would go back; or memory ran out
abbrev pub IsRunFault : PastParts → ℕ → PastFault → Type 0
IsRunFault p to fault.Earlier = to < p.end
IsRunFault p to fault.Memory = p.end ≤ to
IsRunFault p to _ = ⊥
