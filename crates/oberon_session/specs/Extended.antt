-- Recordings that are made while a machine runs: one that begins with a state, and one with one more checkpoint. Nothing here says
-- that a claim is true.
use Rattle.std.specs.Prelude.{ℕ, ◌≡◌, ◌+◌, ◌<◌, ◌≤◌, List, [], ◌++◌, length}
use Rattle.std.specs.List.{All}
use Rattle.risc_pages.specs.Tables.{table_words, zero_numbers}
use Rattle.risc_devices.specs.declared.disk.TheConstants.{UNANSWERED}
use Rattle.risc_model.specs.declared.event.Event.{Event}
use Rattle.risc_model.specs.DiskInputs.{IsOfDisk}
use Rattle.risc_model.specs.InputOrder.{AreOrdered}
use Rattle.risc_model.specs.MachineState.{State, cpu_state}
use Rattle.risc_model.specs.declared.inputs.TheConstants.{MAX_COUNT}
use Rattle.recording_limits.specs.declared.limits.TheConstants.{LAST_CHECKPOINT, MAX_EVENTS, MAX_EVENTS_WITH_DISK}
use Rattle.recording_limits.specs.declared.limits.TheConstants.{MAX_OUTPUT, MAX_PAGES}
use Rattle.oberon_format.specs.Defined.{Outcome, claimed}
use Rattle.oberon_format.specs.Recording.{RecordingParts, count_at, last_of, output_of}
use Rattle.oberon_format.specs.Text.{IsPlain}
use Rattle.oberon_session.specs.Stored.{new_pages}
use Rattle.oberon_session.specs.declared.claim.Claim.{Claim}
use Rattle.oberon_session.specs.declared.extend_fault.ExtendFault.{ExtendFault}
use Rattle.oberon_session.specs.declared.extend_fault.ExtendFault.TheVariants as fault

-- ---- a recording that begins

-- the words of a memory that is all zeros
abbrev pub blank_words : List ℕ
blank_words = table_words [] zero_numbers

-- the recording has no inputs, and checkpoint 0 alone, which claims this state. Its pages are those of the state's memory that are
-- not all zeros, in the order of their slots
pub record IsBegun (first : State) (r : RecordingParts) : Type 0 where
  pub pool : r.pool ≡ new_pages blank_words first.words
  pub inputs : r.inputs ≡ []
  pub one : length r.checkpoints ≡ 1
  pub begins : count_at r 0 ≡ 0
  pub claims : claimed r 0 ≡ record { state = first; sent = [] }

-- ---- a recording with one more checkpoint

-- what a new checkpoint claims: the state, and the bytes sent since the previous checkpoint
abbrev pub outcome_of : Claim → Outcome
outcome_of c = record { state = record { cpu = cpu_state c.cpu; devices = c.devices; words = c.words.now }; sent = c.sent.now }

-- the count of the last checkpoint
abbrev pub last_count : RecordingParts → ℕ
last_count r = count_at r (last_of r)

-- each input of a recording comes before its last checkpoint, so that none is left for a run that continues from there
abbrev pub HasTakenAll : RecordingParts → Type 0
HasTakenAll r = All (λ e. e.count < last_count r) r.inputs

-- a checkpoint at this count, with these inputs, can follow a recording's last checkpoint: the count is higher, the inputs continue
-- those of the recording in order, and each of their counts is from that of the last checkpoint up to this one, and below it
pub record IsNext (r : RecordingParts) (inputs : List Event) (count : ℕ) : Type 0 where
  pub later : last_count r < count
  pub bounded : count ≤ MAX_COUNT
  pub ordered : AreOrdered (r.inputs ++ inputs)
  pub between : All (λ e. (last_count r ≤ e.count) × (e.count < count)) inputs

-- no new input is an answer of a disk, and the claim has none
abbrev pub HasNoAnswer : List Event → Outcome → Type 0
HasNoAnswer inputs claim = All (λ e. ¬ (IsOfDisk e)) inputs × (claim.state.devices.disk ≡ UNANSWERED)

-- the limits of what a recording may have. A plain recording that gets no answer of a disk stays plain, so it may have as many inputs
-- as a file without a disk; any other may have as many as a file with a disk
pub record FitInputs (r : RecordingParts) (inputs : List Event) (claim : Outcome) : Type 0 where
  pub few : length r.inputs + length inputs ≤ MAX_EVENTS_WITH_DISK
  pub plain : IsPlain r → HasNoAnswer inputs claim → length r.inputs + length inputs ≤ MAX_EVENTS

abbrev pub FitsCheckpoint : RecordingParts → Type 0
FitsCheckpoint r = length r.checkpoints ≤ LAST_CHECKPOINT

abbrev pub FitsOutput : RecordingParts → Outcome → Type 0
FitsOutput r claim = length (output_of r.checkpoints) + length claim.sent ≤ MAX_OUTPUT

-- all that is tested before anything is stored: the recording has taken its inputs, the checkpoint and the new inputs come next,
-- and there is room for the inputs, the checkpoint and the output
pub record HasRoom (r : RecordingParts) (inputs : List Event) (count : ℕ) (claim : Outcome) : Type 0 where
  pub taken : HasTakenAll r
  pub next : IsNext r inputs count
  pub inputs_fit : FitInputs r inputs claim
  pub checkpoint_fits : FitsCheckpoint r
  pub output_fits : FitsOutput r claim

-- the recording has these inputs and one more checkpoint
pub record IsExtended (old : RecordingParts) (inputs : List Event) (count : ℕ) (claim : Outcome) (new : RecordingParts)
    : Type 0 where
  -- the pages that changed since the last checkpoint and are not all zeros are added to the pool, in the order of their slots
  pub pool : new.pool ≡ old.pool ++ new_pages (claimed old (last_of old)).state.words claim.state.words
  pub inputs_more : new.inputs ≡ old.inputs ++ inputs
  pub more : length new.checkpoints ≡ length old.checkpoints + 1
  -- each earlier checkpoint has the count that it had, and claims what it claimed
  pub counts : (k : ℕ) → k < length old.checkpoints → count_at new k ≡ count_at old k
  pub claims : (k : ℕ) → k < length old.checkpoints → claimed new k ≡ claimed old k
  -- and the new one has this count, and claims this
  pub last_counts : count_at new (length old.checkpoints) ≡ count
  pub last_claims : claimed new (length old.checkpoints) ≡ claim

-- why a recording is not extended: the first of these rules that is broken, in this order. It has an input at or after its last
-- checkpoint; the checkpoint or a new input does not come next; or it would have more inputs, checkpoints, output or pages than a
-- recording may have. Memory can only run out once all rules hold but the last, which the pages decide
abbrev pub IsExtendFault : RecordingParts → List Event → ℕ → Outcome → ExtendFault → Type 0
IsExtendFault r inputs count claim fault.Pending = ¬ (HasTakenAll r)
IsExtendFault r inputs count claim fault.Order = HasTakenAll r × ¬ (IsNext r inputs count)
IsExtendFault r inputs count claim fault.Inputs = HasTakenAll r × IsNext r inputs count × ¬ (FitInputs r inputs claim)
IsExtendFault r inputs count claim fault.Checkpoints =
    HasTakenAll r × IsNext r inputs count × FitInputs r inputs claim × ¬ (FitsCheckpoint r)
IsExtendFault r inputs count claim fault.Output =
    HasTakenAll r × IsNext r inputs count × FitInputs r inputs claim × FitsCheckpoint r × ¬ (FitsOutput r claim)
IsExtendFault r inputs count claim fault.Pages =
    HasRoom r inputs count claim
    × (MAX_PAGES < length r.pool + length (new_pages (claimed r (last_of r)).state.words claim.state.words))
IsExtendFault r inputs count claim fault.Memory = HasRoom r inputs count claim
