-- What a past keeps, and where a run from one of its keyframes ends.
use Rattle.std.specs.Prelude.{ℕ, ◌≡◌, ◌+◌, ◌-◌, ◌*◌, ◌<◌, ◌≤◌, List, length, map}
use Rattle.risc_pages.specs.Pages.{ArePages}
use Rattle.risc_pages.specs.declared.sizes.TheConstants.{MEMORY_WORDS}
use Rattle.risc_model.specs.declared.event.Event.{Event}
use Rattle.risc_model.specs.MachineState.{State, IsCpuState, cpu_state}
use Rattle.risc_model.specs.Replay.{run_of, sent_of}
use Rattle.oberon_format.specs.CheckpointParts.{CheckpointParts}
use Rattle.oberon_format.specs.Defined.{claim_of}
use Rattle.oberon_format.specs.Recording.{RecordingParts, checkpoint_at, count_at}
use Rattle.oberon_session.specs.Laws.{IsTableOf}
use Rattle.oberon_session.specs.Stored.{changed_page_view, changed_pages}
use Rattle.oberon_past.specs.Past.{PastParts, reached}
use Rattle.oberon_past.specs.Run.{state_at}
use Rattle.oberon_past.specs.declared.running.Reached.{Reached}
use Rattle.oberon_past.specs.declared.running.Stretch.{Stretch}

-- the state of a keyframe over a pool
abbrev pub state_of : List (List ℕ) → CheckpointParts → State
state_of pool c = (claim_of pool c).state

-- keyframe k is true: its state is that of the run from the first keyframe
abbrev pub IsTrueKeyframe : RecordingParts → ℕ → Type 0
IsTrueKeyframe r k =
    state_of r.pool (checkpoint_at r k) ≡ run_of r.inputs (count_at r 0) (count_at r k - count_at r 0) (state_of r.pool (checkpoint_at r 0))

-- what a past keeps: a pool, inputs, and keyframes at a spacing, which are true, up to its end
pub record IsKept (r : RecordingParts) (spacing end : ℕ) : Type 0 where
  pub pool : ArePages r.pool
  pub some : 0 < length r.checkpoints
  pub spaced : 0 < spacing
  pub counts : (k : ℕ) → k < length r.checkpoints → count_at r k ≡ count_at r 0 + k * spacing
  pub ends : count_at r 0 + (length r.checkpoints - 1) * spacing ≤ end
  pub cpus : (k : ℕ) → k < length r.checkpoints → IsCpuState (checkpoint_at r k).cpu
  pub tables : (k : ℕ) → k < length r.checkpoints → IsTableOf (record { pool = r.pool; table = (checkpoint_at r k).table })
  pub truth : (k : ℕ) → k < length r.checkpoints → IsTrueKeyframe r k

-- a machine that began with these words ended in this state
pub record IsReached (begun : List ℕ) (state : State) (r : Reached) : Type 0 where
  pub cpu : cpu_state r.cpu ≡ state.cpu
  pub devices : r.devices ≡ state.devices
  pub changed : map changed_page_view r.changed.items ≡ changed_pages begun state.words
  pub range : IsCpuState state.cpu
  pub whole : length state.words ≡ MEMORY_WORDS

-- a run from a state at a count ended at the count `to`, or before an instruction that sends a byte for which there is no room
pub record IsStretch (inputs : List Event) (from to room : ℕ) (state : State) (stretch : Stretch) : Type 0 where
  pub further : (from ≤ stretch.end) × (stretch.end ≤ to)
  pub sent : stretch.sent.items ≡ sent_of inputs from (stretch.end - from) state
  pub fits : length stretch.sent.items ≤ room
  pub full : stretch.end < to → room < length (sent_of inputs from (stretch.end + 1 - from) state)

-- the next keyframe of a past, a spacing after the last one, is inside the past, and is where a run from the last one ended
pub record IsNextKeyframe (p : PastParts) (next : Reached) : Type 0 where
  pub inside : reached p + p.spacing ≤ p.end
  pub is_reached : IsReached (state_at p.run (reached p)).words (state_at p.run (reached p + p.spacing)) next
