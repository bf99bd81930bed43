-- One step of a run: the machine takes the inputs of a count, and does the instruction of that count.
use Rattle.std.specs.Prelude.{ℕ, ◌-◌, List, Option}
use Rattle.risc_model.specs.declared.event.Event.{Event}
use Rattle.risc_model.specs.MachineState.{State}
use Rattle.risc_model.specs.Exec.{exec}
use Rattle.risc_model.specs.Replay.{feed, run_of}

-- the step of a count: the state before it takes the inputs, the state after the instruction, and the byte that it sends
pub record Step : Type 0 where
  pub count : ℕ
  pub before : State
  pub after : State
  pub sent : Option ℕ

-- the step of a count from a state
abbrev pub step_from : List Event → ℕ → State → Step
step_from es n s = record { count = n; before = s; after = (exec (feed es n s)).0; sent = (exec (feed es n s)).1 }

-- the step of a count in a run from another count
abbrev pub step_at : List Event → ℕ → State → ℕ → Step
step_at es from s n = step_from es n (run_of es from (n - from) s)
