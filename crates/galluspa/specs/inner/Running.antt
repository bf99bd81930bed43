-- A run of a machine, and why a caller gets none.
use Rattle.std.specs.Prelude.{ℕ, ◌≡◌, ◌<◌, ◌≤◌, ◌-◌, ◌==◌, if◌then◌else◌, List, ⊤, length, map, slice_index, slice_index_or}
use Rattle.risc_devices.specs.InputKind.{IsInputWithDisk}
use Rattle.risc_model.specs.declared.event.Event.{Event}
use Rattle.risc_model.specs.declared.inputs.TheConstants.{MAX_COUNT}
use Rattle.risc_model.specs.Replay.{run_of, sent_of}
use Rattle.galluspa.specs.declared.refusal.Refusal.{Refusal}
use Rattle.galluspa.specs.declared.refusal.Refusal.TheVariants as refusal
use Rattle.galluspa.specs.declared.raw.RawInput.{RawInput}
use Rattle.galluspa.specs.declared.raw.RawState.{RawState}
use Rattle.galluspa.specs.Advance.{IsInRange, SendsMore}
use Rattle.galluspa.specs.Raw.{IsWritten, state_of}

-- the state after a run up to a count, and the bytes that it sends
pub record IsRun (events : List Event) (to : ℕ) (old : RawState) (old_words : List ℕ) (new : RawState) (new_words sent : List ℕ)
    : Type 0 where
  pub count_is : new.count ≡ to
  pub state_is : state_of new new_words ≡ run_of events old.count (to - old.count) (state_of old old_words)
  pub sent_is : sent ≡ sent_of events old.count (to - old.count) (state_of old old_words)
  pub written : IsWritten new new_words

-- why there is no such run
abbrev pub IsRunRefusal : List Event → ℕ → RawState → List ℕ → ℕ → Refusal → Type 0
IsRunRefusal events to old words room refusal.Range = ⊥
IsRunRefusal events to old words room refusal.Room = room < length (sent_of events old.count (to - old.count) (state_of old words))
IsRunRefusal events to old words room refusal.Memory = ⊤

-- why a caller's machine is not run
abbrev pub IsAdvanceRefusal : List RawInput → ℕ → RawState → List ℕ → ℕ → Refusal → Type 0
IsAdvanceRefusal inputs to old words room refusal.Range = ¬ (IsInRange inputs to old words)
IsAdvanceRefusal inputs to old words room refusal.Room = IsInRange inputs to old words × SendsMore inputs to old words room
IsAdvanceRefusal inputs to old words room refusal.Memory = IsInRange inputs to old words

-- ---- a caller's inputs, one by one

-- the count of the input at an index
abbrev pub raw_count : List RawInput → ℕ → ℕ
raw_count inputs place = slice_index (map (λ i. i.count) inputs) place

-- the count before an index, 0 before the first
abbrev pub raw_before : List RawInput → ℕ → ℕ
raw_before inputs place = if place == 0 then 0 else raw_count inputs (place - 1)

-- the input at an index is in its range, and its count is not below the one before it, and at most `MAX_COUNT`
pub record IsRight (inputs : List RawInput) (place : ℕ) : Type 0 where
  pub rises : raw_before inputs place ≤ raw_count inputs place
  pub bounded : raw_count inputs place ≤ MAX_COUNT
  pub is_input : (d : RawInput) → IsInputWithDisk (slice_index_or inputs place d).kind (slice_index_or inputs place d).value
