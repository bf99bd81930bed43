-- What the instructions of a past do. That a budget may end a trace is this project's own choice.
use Rattle.std.specs.Prelude.{ℕ, ◌≡◌, ◌⊎◌, ◌+◌, ◌-◌, ◌<◌, List, length, min, slice_index_or, ⊤}
use Rattle.risc_model.specs.declared.event.Event.{Event}
use Rattle.risc_model.specs.MachineState.{IsCpuState, State, cpu_state}
use Rattle.risc_search.specs.Effects.{IsEffect}
use Rattle.oberon_past.specs.Past.{PastParts}
use Rattle.oberon_past.specs.Run.{Run, state_at}
use Rattle.oberon_past.specs.Search.{IsOutOfRange, IsRange}
use Rattle.oberon_past.specs.declared.traced.Record.{Record}
use Rattle.oberon_past.specs.declared.traced.Recorded.{Recorded}
use Rattle.oberon_past.specs.declared.traced.Recorded.TheVariants as recorded
use Rattle.oberon_past.specs.declared.traced.Records.{Records}

-- the record of the step of a count from a state: the state before it without its memory, each number in its range, and what the step
-- does
pub record IsRecord (r : Record) (es : List Event) (n : ℕ) (s : State) : Type 0 where
  pub count_is : r.count ≡ n
  pub cpu_is : cpu_state r.cpu ≡ s.cpu
  pub range : IsCpuState (cpu_state r.cpu)
  pub devices_are : r.devices ≡ s.devices
  pub effect : IsEffect r.effect es n s

-- records of the counts of a run, from a count up to, but not including, the count `next`
pub record AreRecords (run : Run) (from : ℕ) (records : Records) : Type 0 where
  pub each : (i : ℕ) (d : Record) → i < length records.list.items
      → IsRecord (slice_index_or records.list.items i d) run.inputs (from + i) (state_at run (from + i))
  pub next_is : records.next ≡ from + length records.list.items

-- the answer to a question about what the instructions of a range do, if there is room for `room` records. If the budget is spent, there
-- are fewer than are wanted
abbrev pub IsRecorded : Run → ℕ → ℕ → ℕ → ℕ → Recorded → Type 0
IsRecorded run end from to room (recorded.Done records) =
    IsRange run end from to × AreRecords run from records × (length records.list.items ≡ min room (to - from))
IsRecorded run end from to room (recorded.More records) =
    IsRange run end from to × AreRecords run from records × (length records.list.items < min room (to - from))
IsRecorded run end from to room (recorded.OutOfRange fault) = IsOutOfRange run end from to fault

-- what such a question leaves: to be gone on with, at least one keyframe more, or a part of the range that is recorded; refused, all as
-- it was
abbrev pub AdvancesRecords : PastParts → PastParts → ℕ → Recorded → Type 0
AdvancesRecords old new from (recorded.Done records) = ⊤
AdvancesRecords old new from (recorded.More records) = (old.keyframes < new.keyframes) ⊎ (from < records.next)
AdvancesRecords old new from (recorded.OutOfRange fault) = new ≡ old
