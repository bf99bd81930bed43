-- A run that begins at any count, and its states.
use Rattle.std.specs.Prelude.{ℕ, ◌-◌, List, Option, None, Some}
use Rattle.risc_model.specs.declared.event.Event.{Event}
use Rattle.risc_model.specs.MachineState.{State}
use Rattle.risc_model.specs.Replay.{run_of, sent_of}
use Rattle.oberon_session.specs.Extended.{blank_words}

-- a run: the count at which it begins, the state there, and its inputs
pub record Run : Type 0 where
  pub start : ℕ
  pub first : State
  pub inputs : List Event

-- the state at a count, in the one uninterrupted run from the first state
abbrev pub state_at : Run → ℕ → State
state_at run n = run_of run.inputs run.start (n - run.start) run.first

-- the words of the memory at a count; without a count, zeros
abbrev pub words_at : Run → Option ℕ → List ℕ
words_at run None = blank_words
words_at run (Some n) = (state_at run n).words

-- the bytes that the run sends from one count up to another
abbrev pub sent_between : Run → ℕ → ℕ → List ℕ
sent_between run from to = sent_of run.inputs from (to - from) (state_at run from)
