-- Questions about a range of counts of a past behind a handle: what a caller asks, and what it gets (this project's own choice).
use Rattle.std.specs.Prelude.{ℕ, ◌≡◌, ◌+◌, ◌<◌, ◌≤◌, List, length, map, slice_index_or, take}
use Rattle.risc_model.specs.declared.call.Call.{Call}
use Rattle.risc_model.specs.declared.call.Turn.{Turn}
use Rattle.risc_model.specs.Turns.{IsFollowed}
use Rattle.risc_pages.specs.declared.sizes.TheConstants.{MEMORY_WORDS}
use Rattle.oberon_past.specs.Run.{Run, state_at}
use Rattle.galluspa.specs.declared.calls.RawTurn.{RawTurn}
use Rattle.galluspa.specs.declared.records.RawRecord.{RawRecord}
use Rattle.galluspa.specs.Calls.{AreLeftOpen, raw_turn}
use Rattle.galluspa.specs.Records.{IsRecord}

-- ---- what is asked

-- what is asked about a range of any past is in its range: the range does not go back, and there is a budget
pub record IsQuestion (from to budget : ℕ) : Type 0 where
  pub forward : from ≤ to
  pub some : 0 < budget

-- the same of a profile, which has a number for each word of memory, twice
pub record IsProfileQuestion (from to budget : ℕ) (visits departures : List ℕ) : Type 0 where
  pub question : IsQuestion from to budget
  pub for_visits : length visits ≡ MEMORY_WORDS
  pub for_departures : length departures ≡ MEMORY_WORDS

-- the same of records, with room for one
pub record IsRecordsQuestion (from to budget room : ℕ) : Type 0 where
  pub question : IsQuestion from to budget
  pub room_for_one : 0 < room

-- the same of calls, with so many open ones at the front of a list that has room for another one, and with room for a turn
pub record IsCallsQuestion (from to limit budget : ℕ) (calls : List Call) (count room : ℕ) : Type 0 where
  pub question : IsQuestion from to budget
  pub fits : count < length calls
  pub room_for_one : 0 < room
  pub are_open : AreLeftOpen limit from (take count calls)

-- ---- what is answered

-- the first records of a list are those of the counts of a run, from one on
abbrev pub AreRecordsOf : ℕ → List RawRecord → Run → ℕ → Type 0
AreRecordsOf count records run from =
    (i : ℕ) (d : RawRecord) → i < count → IsRecord (slice_index_or records i d) run.inputs (from + i) (state_at run (from + i))

-- the turns of a run from a count on, from these open calls, as they are written to a caller, and the calls that are open at the count
-- `next`. It is `to`, or the first count at which there is no room for another turn or call
pub record HasCalls (run : Run) (limit from to : ℕ) (calls : List Call) (room height : ℕ) (left : List Call) (written : List RawTurn)
    (next : ℕ) : Type 0 where
  pub turns : List Turn
  pub written_are : written ≡ map raw_turn turns
  pub followed : IsFollowed limit run.inputs from to (state_at run from) calls room height turns left next
