-- The past of a run, and what it answers. Keyframes, their spacing and budgets are this project's own choice.
use Rattle.std.specs.Prelude.{ℕ, ◌≡◌, ◌≢◌, ◌⊎◌, ◌+◌, ◌-◌, ◌*◌, ◌/◌, ◌<◌, ◌≤◌, Option, None, Some, length, map, max, min}
use Rattle.risc_model.specs.MachineState.{IsCpuState, cpu_state}
use Rattle.oberon_format.specs.Defined.{claimed}
use Rattle.oberon_format.specs.Recording.{RecordingParts, count_at, last_of}
use Rattle.oberon_session.specs.Stored.{changed_page_view, changed_pages}
use Rattle.oberon_past.specs.Run.{Run, state_at, words_at}
use Rattle.oberon_past.specs.declared.answer.Answer.{Answer}
use Rattle.oberon_past.specs.declared.answer.Answer.TheVariants as answer
use Rattle.oberon_past.specs.declared.extent.Extent.{Extent}
use Rattle.oberon_past.specs.declared.moment.Moment.{Moment}

-- a past: a run; its end, the last count that can be asked about; how many instructions are between two keyframes; and how many
-- keyframes and pages of them it has
pub record PastParts : Type 0 where
  pub run : Run
  pub end : ℕ
  pub spacing : ℕ
  pub keyframes : ℕ
  pub pages : ℕ

-- the past whose keyframes are these checkpoints over a pool, the first one at the first count
abbrev pub past_of : RecordingParts → ℕ → ℕ → PastParts
past_of kept spacing end = record {
  run = record { start = count_at kept 0; first = (claimed kept 0).state; inputs = kept.inputs };
  end = end;
  spacing = spacing;
  keyframes = length kept.checkpoints;
  pages = length kept.pool;
}

-- ---- keyframes

-- the count of keyframe k
abbrev pub keyframe_count : PastParts → ℕ → ℕ
keyframe_count p k = p.run.start + k * p.spacing

-- the count of the last keyframe
abbrev pub reached : PastParts → ℕ
reached p = keyframe_count p (p.keyframes - 1)

-- the number of the last keyframe at or before a count, and its count
abbrev pub nearest : PastParts → ℕ → ℕ
nearest p n = min ((n - p.run.start) / p.spacing) (p.keyframes - 1)

abbrev pub nearest_count : PastParts → ℕ → ℕ
nearest_count p n = keyframe_count p (nearest p n)

-- at most one spacing of instructions is to do from the last keyframe on to the count: it is near, or the machine is stopped there
abbrev pub IsNear : PastParts → ℕ → Type 0
IsNear p n = (n ≤ reached p + p.spacing) ⊎ ((state_at p.run (reached p)).cpu.stop ≢ 0)

-- the count of which a caller has the memory is further
abbrev pub IsFar : PastParts → Option ℕ → Type 0
IsFar p None = ⊥
IsFar p (Some n) = reached p + p.spacing < n

-- ---- pasts

-- the past of this run, with this end
pub record IsOf (run : Run) (end : ℕ) (p : PastParts) : Type 0 where
  pub run_is : p.run ≡ run
  pub end_is : p.end ≡ end

-- the past of a recording: its run begins with the initial state, and takes the inputs; the end is the last checkpoint's count
abbrev pub IsOpened : RecordingParts → PastParts → Type 0
IsOpened r p = IsOf (record { start = 0; first = (claimed r 0).state; inputs = r.inputs }) (count_at r (last_of r)) p

-- a past with this spacing, and the first keyframe alone
pub record IsSpaced (spacing : ℕ) (p : PastParts) : Type 0 where
  pub spacing_is : p.spacing ≡ spacing
  pub one : p.keyframes ≡ 1
  pub few : p.pages ≤ 1024

-- the same past, maybe with more keyframes, and with pages more
pub record IsLonger (old new : PastParts) : Type 0 where
  pub run : new.run ≡ old.run
  pub end : new.end ≡ old.end
  pub spacing : new.spacing ≡ old.spacing
  pub keyframes : old.keyframes ≤ new.keyframes
  pub pages : old.pages ≤ new.pages

-- what a past tells of itself
pub record IsExtent (p : PastParts) (e : Extent) : Type 0 where
  pub first : e.first ≡ p.run.start
  pub end : e.end ≡ p.end
  pub reached_is : e.reached ≡ reached p
  pub keyframes : e.keyframes ≡ p.keyframes
  pub pages : e.pages ≡ p.pages
  pub inputs : e.inputs ≡ length p.run.inputs
  pub within : (e.first ≤ e.reached) × (e.reached ≤ e.end)

-- ---- answers

-- the state at a count of a run, with the pages that differ from those at the count `from`
pub record IsMoment (run : Run) (n : ℕ) (from : Option ℕ) (m : Moment) : Type 0 where
  pub count : m.count ≡ n
  pub cpu : cpu_state m.cpu ≡ (state_at run n).cpu
  pub range : IsCpuState (cpu_state m.cpu)
  pub devices : m.devices ≡ (state_at run n).devices
  pub changed : map changed_page_view m.changed.items ≡ changed_pages (words_at run from) (state_at run n).words

-- the earlier and the later one of the counts of a question
abbrev pub first_asked : ℕ → Option ℕ → ℕ
first_asked n None = n
first_asked n (Some from) = min from n

abbrev pub last_asked : ℕ → Option ℕ → ℕ
last_asked n None = n
last_asked n (Some from) = max from n

-- the counts of a question are counts of the past
abbrev pub IsInside : Run → ℕ → ℕ → Option ℕ → Type 0
IsInside run end n from = (run.start ≤ first_asked n from) × (last_asked n from ≤ end)

-- the answer to a question that is refused: the first rule that it breaks
abbrev pub IsRefused : Run → ℕ → ℕ → Option ℕ → Answer → Type 0
IsRefused run end n from answer.Earlier = first_asked n from < run.start
IsRefused run end n from answer.Later = (run.start ≤ first_asked n from) × (end < last_asked n from)
IsRefused run end n from _ = ⊥

-- the answer to a question about a count
abbrev pub IsAnswer : Run → ℕ → ℕ → Option ℕ → Answer → Type 0
IsAnswer run end n from (answer.Done m) = IsInside run end n from × IsMoment run n from m
IsAnswer run end n from answer.More = IsInside run end n from
IsAnswer run end n from answer.Later = (run.start ≤ first_asked n from) × (end < last_asked n from)
IsAnswer run end n from answer.Earlier = first_asked n from < run.start

-- what a question leaves: done, keyframes near its counts, so that it is soon done another time; to be gone on with, at least one
-- keyframe more; refused, all as it was
abbrev pub LeavesKeyframes : PastParts → PastParts → ℕ → Option ℕ → Answer → Type 0
LeavesKeyframes old new n from (answer.Done m) = IsNear new (last_asked n from)
LeavesKeyframes old new n from answer.More = old.keyframes < new.keyframes
LeavesKeyframes old new n from _ = new ≡ old

-- the answer to a question about the last keyframe at or before a count
abbrev pub IsNearAnswer : PastParts → ℕ → Option ℕ → Answer → Type 0
IsNearAnswer p n from (answer.Done m) = IsInside p.run p.end n from × IsMoment p.run (nearest_count p n) from m
IsNearAnswer p n from answer.More = IsInside p.run p.end n from × IsFar p from
IsNearAnswer p n from answer.Later = (p.run.start ≤ first_asked n from) × (p.end < last_asked n from)
IsNearAnswer p n from answer.Earlier = first_asked n from < p.run.start
