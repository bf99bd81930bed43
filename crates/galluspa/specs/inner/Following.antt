-- Open calls, one by one, and a run that follows calls.
use Rattle.std.specs.Prelude.{ℕ, ◌≡◌, ◌<◌, ◌≤◌, ◌-◌, List, length, ⊤}
use Rattle.risc_machine.specs.declared.call_log.CallLog.{CallLog}
use Rattle.risc_model.specs.declared.call.Call.{Call}
use Rattle.risc_model.specs.declared.event.Event.{Event}
use Rattle.risc_model.specs.Replay.{run_of}
use Rattle.risc_model.specs.Turns.{IsFollowed}
use Rattle.oberon_past.specs.declared.called.Called.{Called}
use Rattle.oberon_past.specs.declared.called.Called.TheVariants as called
use Rattle.oberon_past.specs.declared.called.Calls.{Calls}
use Rattle.oberon_past.specs.Run.{Run, state_at}
use Rattle.oberon_past.specs.Search.{IsOutOfRange, IsRange}
use Rattle.galluspa.specs.declared.raw.RawState.{RawState}
use Rattle.galluspa.specs.Calls.{AreLeftOpen}
use Rattle.galluspa.specs.Raw.{IsWritten, state_of}

-- the highest R14 of the stack, with one call more
abbrev pub IsAsDeep : ℕ → ℕ → ℕ → ℕ → Type 0
IsAsDeep limit sp highest new = (sp ≤ limit → new ≡ sp) × (limit < sp → new ≡ highest)

-- a run that follows calls from a state, and what it leaves in its log
pub record IsFollowedRun (events : List Event) (to : ℕ) (old : RawState) (old_words : List ℕ) (new : RawState) (new_words : List ℕ)
    (begun left : CallLog) : Type 0 where
  pub followed : IsFollowed begun.limit events old.count to (state_of old old_words) begun.calls.items begun.room begun.height
      left.turns.items left.calls.items new.count
  pub state_is : state_of new new_words ≡ run_of events old.count (new.count - old.count) (state_of old old_words)
  pub written : IsWritten new new_words
  pub held : (length left.calls.items ≤ begun.height) × (length left.turns.items ≤ begun.room)
  pub are_open : AreLeftOpen begun.limit new.count left.calls.items

-- ---- calls of a past

-- the calls of a range, from these open calls on, where there is room for so many turns and calls
abbrev pub AreCallsFrom : Run → ℕ → ℕ → ℕ → List Call → ℕ → ℕ → Calls → Type 0
AreCallsFrom run limit from to calls room height left =
    IsFollowed limit run.inputs from to (state_at run from) calls room height left.log.turns.items left.log.calls.items left.next

-- the answer to a question about them
abbrev pub IsCalledFrom : Run → ℕ → ℕ → ℕ → ℕ → List Call → ℕ → ℕ → Called → Type 0
IsCalledFrom run end limit from to calls room height (called.Done left) =
    IsRange run end from to × AreCallsFrom run limit from to calls room height left
IsCalledFrom run end limit from to calls room height (called.More left) =
    IsRange run end from to × AreCallsFrom run limit from left.next calls room height left × (left.next < to)
    × (length left.log.calls.items < height) × (length left.log.turns.items < room)
IsCalledFrom run end limit from to calls room height (called.OutOfRange fault) = IsOutOfRange run end from to fault

-- another run can be followed from the calls that are left, and there is room for what is written to a caller
pub record AreLeft (limit room height : ℕ) (left : Calls) : Type 0 where
  pub are_open : AreLeftOpen limit left.next left.log.calls.items
  pub calls : length left.log.calls.items ≤ height
  pub turns : length left.log.turns.items ≤ room

abbrev pub AreHeld : ℕ → ℕ → ℕ → Called → Type 0
AreHeld limit room height (called.Done left) = AreLeft limit room height left
AreHeld limit room height (called.More left) = AreLeft limit room height left
AreHeld limit room height (called.OutOfRange fault) = ⊤
