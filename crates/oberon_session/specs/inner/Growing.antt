-- A recording while its next checkpoint is added.
use Rattle.std.specs.Prelude.{ℕ, ◌≡◌, ◌≢◌, ◌<◌, ◌≤◌, ◌^◌, List, [], ◌∷◌, ◌++◌, length}
use Rattle.std.specs.List.{All}
use Rattle.risc_devices.specs.DeviceState.{IsDeviceState}
use Rattle.risc_model.specs.MachineState.{cpu_state}
use Rattle.risc_pages.specs.Pages.{ArePages}
use Rattle.risc_pages.specs.Tables.{table_words}
use Rattle.recording_limits.specs.declared.limits.TheConstants.{MAX_PAGES}
use Rattle.oberon_format.specs.CheckpointParts.{CheckpointParts}
use Rattle.oberon_format.specs.Recording.{RecordingParts, checkpoint_at, last_of}
use Rattle.oberon_session.specs.Stored.{Stored, store}
use Rattle.oberon_session.specs.declared.claim.Claim.{Claim}
use Rattle.oberon_session.specs.declared.extend_fault.ExtendFault.{ExtendFault}

-- the checkpoint that makes a claim, with this table
abbrev pub claim_checkpoint : Claim → List ℕ → CheckpointParts
claim_checkpoint c table = record { count = c.count; cpu = cpu_state c.cpu; devices = c.devices; sent = c.sent.now; table = table }

-- words are stored after the memory of a table
abbrev pub stored_on : Stored → List ℕ → Stored
stored_on stored words = store (table_words stored.pool stored.table) words stored

-- the pool and the table of a recording's last checkpoint
abbrev pub last_stored : RecordingParts → Stored
last_stored r = record { pool = r.pool; table = (checkpoint_at r (last_of r)).table }

-- the memory of a claim is stored, and its checkpoint is added to those of the recording
pub record HasGrown (r : RecordingParts) (claim : Claim) (stored : Stored) (checkpoints : List CheckpointParts) : Type 0 where
  pub stored_is : stored ≡ stored_on (last_stored r) claim.words.now
  pub pushed : checkpoints ≡ r.checkpoints ++ claim_checkpoint claim stored.table ∷ []
  pub few : length stored.pool ≤ MAX_PAGES
  pub pages : ArePages stored.pool
  pub devices : IsDeviceState claim.devices
  pub bytes : All (λ byte. byte < 2 ^ 8) claim.sent.now

-- unless memory ran out, words need more pages than a recording may have
abbrev pub NeedsPages : Stored → List ℕ → ExtendFault → Type 0
NeedsPages stored words fault =
    fault ≢ ExtendFault.Memory → (fault ≡ ExtendFault.Pages) × (MAX_PAGES < length (stored_on stored words).pool)
