-- Logs of calls: for how many calls and turns there is room (this project's own choice).
use Rattle.std.specs.Prelude.{ℕ, ◌≤◌, ◌<◌, List, All, length, vec_capacity}
use Rattle.risc_model.specs.declared.call.Call.{Call}
use Rattle.risc_machine.specs.declared.call_log.CallLog.{CallLog}

-- there is room for another call, and for another turn
pub record HasRoom (log : CallLog) : Type 0 where
  pub turns : length log.turns.items < log.room
  pub calls : length log.calls.items < log.height

-- no more calls and turns are held than there is room for
pub record IsWithin (log : CallLog) : Type 0 where
  pub turns : length log.turns.items ≤ log.room
  pub calls : length log.calls.items ≤ log.height

-- memory was taken for all of them
pub record IsReserved (log : CallLog) : Type 0 where
  pub turns : log.room ≤ vec_capacity log.turns
  pub calls : log.height ≤ vec_capacity log.calls

-- the calls were made before a count
abbrev pub AreBefore : ℕ → List Call → Type 0
AreBefore n calls = All (λ call. call.count < n) calls
