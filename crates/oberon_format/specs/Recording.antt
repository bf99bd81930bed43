-- What a recording is, and which recordings are lawful. All limits are this project's own choice.
use Rattle.std.specs.Prelude.{ℕ, ◌≡◌, ◌+◌, ◌-◌, ◌^◌, ◌<◌, ◌≤◌, ◌==◌, if◌then◌else◌, List, All, [], length, slice_index_or, map}
use Rattle.std.specs.List.{flat_map}
use Rattle.risc_pages.specs.Pages.{ArePages}
use Rattle.risc_pages.specs.Tables.{IsNamed, zero_numbers, IsTable}
use Rattle.risc_devices.specs.DeviceState.{IsDeviceState}
use Rattle.risc_devices.specs.declared.disk.TheConstants.{UNANSWERED}
use Rattle.risc_model.specs.declared.event.Event.{Event}
use Rattle.risc_model.specs.DiskInputs.{IsOfDisk}
use Rattle.risc_model.specs.InputOrder.{AreOrdered}
use Rattle.risc_model.specs.MachineState.{IsCpuState}
use Rattle.risc_model.specs.declared.inputs.TheConstants.{MAX_COUNT}
use Rattle.oberon_format.specs.declared.ranges.TheConstants.{MAX_CHECKPOINTS}
use Rattle.recording_limits.specs.declared.limits.TheConstants.{MAX_EVENTS, MAX_EVENTS_WITH_DISK, MAX_OUTPUT, MAX_PAGES}
use Rattle.oberon_format.specs.CheckpointParts.{CheckpointParts, no_checkpoint, checkpoint_parts}
use Rattle.oberon_format.specs.declared.checkpoint.Checkpoint.{Checkpoint}

-- the parts of a recording: a pool of pages, each the list of its words; inputs with their counts; and checkpoints 0 to K
pub record RecordingParts : Type 0 where
  pub pool : List (List ℕ)
  pub inputs : List Event
  pub checkpoints : List CheckpointParts

-- checkpoint k
abbrev pub checkpoint_at : RecordingParts → ℕ → CheckpointParts
checkpoint_at r k = slice_index_or r.checkpoints k no_checkpoint

-- the count of checkpoint k
abbrev pub count_at : RecordingParts → ℕ → ℕ
count_at r k = (checkpoint_at r k).count

-- the table before checkpoint k: zeros for checkpoint 0, else that of the checkpoint before
abbrev pub table_before : List CheckpointParts → ℕ → List ℕ
table_before checkpoints k = if k == 0 then zero_numbers else (slice_index_or checkpoints (k - 1) no_checkpoint).table

-- K, the number of the last checkpoint
abbrev pub last_of : RecordingParts → ℕ
last_of r = length r.checkpoints - 1

-- all bytes sent, checkpoint by checkpoint
abbrev pub output_of : List CheckpointParts → List ℕ
output_of checkpoints = flat_map (λ c. c.sent) checkpoints

-- a checkpoint whose fields are in their ranges and whose page ids are those of the pool. It may claim any stop
pub record IsFit (pool : List (List ℕ)) (c : CheckpointParts) : Type 0 where
  pub bounded : c.count ≤ MAX_COUNT
  pub cpu : IsCpuState c.cpu
  pub devices : IsDeviceState c.devices
  pub table : IsTable c.table
  pub named : IsNamed pool c.table
  pub bytes : All (λ byte. byte < 2 ^ 8) c.sent

-- a checkpoint before the disk's first answer
abbrev pub IsUnanswered : CheckpointParts → Type 0
IsUnanswered c = c.devices.disk ≡ UNANSWERED

-- a recording of a machine without a disk: no input is an answer of the disk, and no checkpoint has one
pub record HasNoAnswers (r : RecordingParts) : Type 0 where
  pub inputs : All (λ e. ¬ (IsOfDisk e)) r.inputs
  pub checkpoints : All IsUnanswered r.checkpoints

-- a recording within all limits: the numbers of pages, inputs and checkpoints are within theirs, there is at least one
-- checkpoint, inputs are in the order of their counts, the counts of checkpoints begin at 0 and rise, checkpoint 0 has no output,
-- and the output in all is within its limit. It may have answers of a disk. That each input's value is in its kind's range is not
-- asked here: `Input` itself guarantees it, as `IsInputWithDisk` of `risc_devices` (`specs/InputKind.antt`)
pub record IsLawfulWithDisk (r : RecordingParts) : Type 0 where
  pub pages : length r.pool ≤ MAX_PAGES
  pub pool : ArePages r.pool
  pub events : length r.inputs ≤ MAX_EVENTS_WITH_DISK
  pub ordered : AreOrdered r.inputs
  pub some : 0 < length r.checkpoints
  pub few : length r.checkpoints ≤ MAX_CHECKPOINTS
  pub begins : count_at r 0 ≡ 0
  pub rises : (k : ℕ) → k + 1 < length r.checkpoints → count_at r k < count_at r (k + 1)
  pub silent : (checkpoint_at r 0).sent ≡ []
  pub output : length (output_of r.checkpoints) ≤ MAX_OUTPUT
  pub fit : (k : ℕ) → k < length r.checkpoints → IsFit r.pool (checkpoint_at r k)

-- a lawful recording of a machine without a disk, which has a lower limit of inputs
pub record IsLawful (r : RecordingParts) : Type 0 where
  pub pages : length r.pool ≤ MAX_PAGES
  pub pool : ArePages r.pool
  pub events : length r.inputs ≤ MAX_EVENTS
  pub ordered : AreOrdered r.inputs
  pub some : 0 < length r.checkpoints
  pub few : length r.checkpoints ≤ MAX_CHECKPOINTS
  pub begins : count_at r 0 ≡ 0
  pub rises : (k : ℕ) → k + 1 < length r.checkpoints → count_at r k < count_at r (k + 1)
  pub silent : (checkpoint_at r 0).sent ≡ []
  pub output : length (output_of r.checkpoints) ≤ MAX_OUTPUT
  pub fit : (k : ℕ) → k < length r.checkpoints → IsFit r.pool (checkpoint_at r k)
  pub unanswered : HasNoAnswers r

-- the parts of a recording, lawful or not
abbrev pub parts_of : List (List ℕ) → List Event → List Checkpoint → RecordingParts
parts_of pool inputs checkpoints = record { pool = pool; inputs = inputs; checkpoints = map checkpoint_parts checkpoints }
