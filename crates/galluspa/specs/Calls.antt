-- The calls of a run of a machine in the memory of a caller (this project's own choice).
use Rattle.std.specs.Prelude.{ℕ, ◌≡◌, ◌<◌, ◌+◌, ◌-◌, ◌^◌, List, All, Option, None, Some, length, map, take}
use Rattle.risc_model.specs.declared.call.Call.{Call}
use Rattle.risc_model.specs.declared.call.Turn.{Turn}
use Rattle.risc_model.specs.declared.event.Event.{Event}
use Rattle.risc_model.specs.Replay.{run_of}
use Rattle.risc_model.specs.Turns.{IsFollowed}
use Rattle.risc_pages.specs.declared.sizes.TheConstants.{MEMORY_WORDS}
use Rattle.oberon_past.specs.Calls.{AreOpen}
use Rattle.galluspa.specs.declared.calls.RawTurn.{RawTurn}
use Rattle.galluspa.specs.declared.raw.RawInput.{RawInput}
use Rattle.galluspa.specs.declared.raw.RawState.{RawState}
use Rattle.galluspa.specs.Advance.{IsInRange}
use Rattle.galluspa.specs.Raw.{AreEvents, state_of}

-- a turn as a caller gets it. If no call is made, the word of its branch is 2 ^ 32 - 1, which no branch has
abbrev pub raw_turn_with : ℕ → ℕ → Option Call → RawTurn
raw_turn_with count stay None = record { count = count; stay = stay; at = 2 ^ 32 - 1; to = 0; back = 0; sp = 0 }
raw_turn_with count stay (Some call) =
    record { count = count; stay = stay; at = call.at; to = call.to; back = call.back; sp = call.sp }

abbrev pub raw_turn : Turn → RawTurn
raw_turn turn = raw_turn_with turn.count turn.stay turn.call

-- the branch of a call is in memory, and returns to the next word
abbrev pub IsPossible : Call → Type 0
IsPossible call = (call.at < MEMORY_WORDS) × (call.back ≡ call.at + 1)

-- calls that a run up to a count can have left open: another run can be followed from them, and the branch of each is in memory and
-- returns to the next word
pub record AreLeftOpen (limit count : ℕ) (calls : List Call) : Type 0 where
  pub are_open : AreOpen limit count calls
  pub possible : All IsPossible calls

-- all that is given is in its range: what a run is given, so many open calls at the front of a list that has room for another one, and
-- room for a turn
pub record IsInCallsRange (inputs : List RawInput) (to limit : ℕ) (state : RawState) (words : List ℕ) (calls : List Call) (count room : ℕ)
    : Type 0 where
  pub run : IsInRange inputs to state words
  pub fits : count < length calls
  pub room_for_one : 0 < room
  pub are_open : AreLeftOpen limit state.count (take count calls)

-- one run from the count of a state, with these inputs, from these open calls, up to the count of the new state: it is `to`, or the first
-- count at which there is no room for another turn or call. The new state, the calls that are open then, and the turns
pub record HasFollowed (inputs : List RawInput) (to limit : ℕ) (old : RawState) (old_words : List ℕ) (calls : List Call) (room height : ℕ)
    (new : RawState) (new_words : List ℕ) (left : List Call) (written : List RawTurn) : Type 0 where
  pub events : List Event
  pub are_events : AreEvents inputs events
  pub turns : List Turn
  pub written_are : written ≡ map raw_turn turns
  pub followed : IsFollowed limit events old.count to (state_of old old_words) calls room height turns left new.count
  pub state_is : state_of new new_words ≡ run_of events old.count (new.count - old.count) (state_of old old_words)
