-- The one uninterrupted run from an initial state, which is at count 0.
use Rattle.std.specs.Prelude.{ℕ, ◌-◌, List}
use Rattle.risc_model.specs.declared.event.Event.{Event}
use Rattle.risc_model.specs.MachineState.{State}
use Rattle.risc_model.specs.Replay.{run_of, sent_of}

-- the state at a count
abbrev pub state_from : List Event → State → ℕ → State
state_from es first n = run_of es 0 n first

-- the bytes sent from one count up to another
abbrev pub sent_between : List Event → State → ℕ → ℕ → List ℕ
sent_between es first from to = sent_of es from (to - from) (state_from es first from)

-- a state, and the bytes sent on the way to it
pub record Outcome : Type 0 where
  pub state : State
  pub sent : List ℕ

-- the result of the run from one count up to another: the state at the later one, and the bytes sent between them
abbrev pub outcome_between : List Event → State → ℕ → ℕ → Outcome
outcome_between es first from to = record { state = state_from es first to; sent = sent_between es first from to }
