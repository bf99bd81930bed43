-- The calls of the run of a past. That a budget may end a question about them is this project's own choice.
use Rattle.std.specs.Prelude.{ℕ, ◌≡◌, ◌⊎◌, ◌<◌, List, length, ⊤}
use Rattle.risc_machine.specs.CallLogs.{AreBefore}
use Rattle.risc_machine.specs.declared.call_log.CallLog.{CallLog}
use Rattle.risc_model.specs.declared.call.Call.{Call}
use Rattle.risc_model.specs.Turns.{IsFollowed, IsStack}
use Rattle.oberon_past.specs.Past.{PastParts}
use Rattle.oberon_past.specs.Run.{Run, state_at}
use Rattle.oberon_past.specs.Search.{IsOutOfRange, IsRange}
use Rattle.oberon_past.specs.declared.called.Called.{Called}
use Rattle.oberon_past.specs.declared.called.Called.TheVariants as called
use Rattle.oberon_past.specs.declared.called.Calls.{Calls}

-- calls from which a run can be followed at a count: they are a stack of calls that were made before the count
pub record AreOpen (limit count : ℕ) (calls : List Call) : Type 0 where
  pub stack : IsStack limit calls
  pub earlier : AreBefore count calls

-- the calls of a range, from the open calls of a log on: the turns, and the calls that are open at the count `next`. It is the end of the
-- range, or the first count at which the log is full. Another run can be followed from these calls
pub record AreCalls (run : Run) (from to : ℕ) (log : CallLog) (calls : Calls) : Type 0 where
  pub followed : IsFollowed log.limit run.inputs from to (state_at run from) log.calls.items log.room log.height
      calls.log.turns.items calls.log.calls.items calls.next
  pub are_open : AreOpen log.limit calls.next calls.log.calls.items

-- the answer to a question about the calls of a range. If the budget is spent, they are those of a part of the range, and there is room for
-- more
abbrev pub IsCalled : Run → ℕ → ℕ → ℕ → CallLog → Called → Type 0
IsCalled run end from to log (called.Done calls) = IsRange run end from to × AreCalls run from to log calls
IsCalled run end from to log (called.More calls) =
    IsRange run end from to × AreCalls run from calls.next log calls × (calls.next < to)
    × (length calls.log.turns.items < log.room) × (length calls.log.calls.items < log.height)
IsCalled run end from to log (called.OutOfRange fault) = IsOutOfRange run end from to fault

-- what such a question leaves: to be gone on with, at least one keyframe more, or a part of the range that is followed; refused, all as it
-- was
abbrev pub AdvancesCalls : PastParts → PastParts → ℕ → Called → Type 0
AdvancesCalls old new from (called.Done calls) = ⊤
AdvancesCalls old new from (called.More calls) = (old.keyframes < new.keyframes) ⊎ (from < calls.next)
AdvancesCalls old new from (called.OutOfRange fault) = new ≡ old
