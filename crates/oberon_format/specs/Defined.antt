-- What a recording claims, and what one uninterrupted run from its initial state reaches.
use Rattle.std.specs.Prelude.{ℕ, ◌≡◌, ◌-◌, List}
use Rattle.risc_pages.specs.Tables.{table_words}
use Rattle.risc_model.specs.MachineState.{State}
pub use Rattle.risc_model.specs.OneRun.{Outcome}
use Rattle.risc_model.specs.OneRun.{outcome_between, sent_between, state_from}
use Rattle.oberon_format.specs.CheckpointParts.{CheckpointParts}
use Rattle.oberon_format.specs.Recording.{RecordingParts, checkpoint_at, count_at}

-- what a checkpoint claims over a pool: its memory is the content of its table, without page ids
abbrev pub claim_of : List (List ℕ) → CheckpointParts → Outcome
claim_of pool c = record { state = record { cpu = c.cpu; devices = c.devices; words = table_words pool c.table }; sent = c.sent }

-- what checkpoint k claims
abbrev pub claimed : RecordingParts → ℕ → Outcome
claimed r k = claim_of r.pool (checkpoint_at r k)

-- the state at a count, in one run from checkpoint 0
abbrev pub state_at : RecordingParts → ℕ → State
state_at r n = state_from r.inputs (claimed r 0).state n

-- the bytes that this run sends from one count up to another
abbrev pub output_between : RecordingParts → ℕ → ℕ → List ℕ
output_between r from to = sent_between r.inputs (claimed r 0).state from to

-- what this run reaches at checkpoint k, with its output since the checkpoint before. At checkpoint 0 that is no output
abbrev pub defined : RecordingParts → ℕ → Outcome
defined r k = outcome_between r.inputs (claimed r 0).state (count_at r (k - 1)) (count_at r k)

-- checkpoint k is true: it claims what the run reaches
abbrev pub IsTrueAt : RecordingParts → ℕ → Type 0
IsTrueAt r k = claimed r k ≡ defined r k
