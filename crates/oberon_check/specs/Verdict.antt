-- The verdict on a recording: how its checkpoints compare with one uninterrupted run from its initial state.
use Rattle.std.specs.Prelude.{ℕ, ◌≡◌, ◌<◌, ◌≤◌, Some}
use Rattle.oberon_format.specs.Recording.{RecordingParts, count_at, last_of}
use Rattle.oberon_format.specs.Defined.{claimed, defined, IsTrueAt}
use Rattle.oberon_check.specs.declared.part.Part.{Part}
use Rattle.oberon_check.specs.declared.verdict.Verdict.{Verdict}
use Rattle.oberon_check.specs.declared.verdict.Verdict.TheVariants.{Accepted, FalseAt}
use Rattle.oberon_check.specs.Difference.{first_difference}

-- each checkpoint claims the state and the output that the run gives at its count. Checkpoint 0 is taken as given. The
-- verdict has the number of checkpoints after it, and the count of the last one
pub record IsAccepted (r : RecordingParts) (checkpoints steps : ℕ) : Type 0 where
  pub true_at : (k : ℕ) → 0 < k → k ≤ last_of r → IsTrueAt r k
  pub checkpoints_is : checkpoints ≡ last_of r
  pub steps_is : steps ≡ count_at r (last_of r)

-- this is the first checkpoint that is not true, and this is the first part in which it differs from what the run gives
pub record IsFirstFalse (r : RecordingParts) (checkpoint count : ℕ) (part : Part) : Type 0 where
  pub above : 0 < checkpoint
  pub inside : checkpoint ≤ last_of r
  pub before : (j : ℕ) → 0 < j → j < checkpoint → IsTrueAt r j
  pub differs : first_difference (claimed r checkpoint) (defined r checkpoint) ≡ Some part
  pub count_is : count ≡ count_at r checkpoint

-- the verdict: all checkpoints are true, or one is the first false one
abbrev pub IsVerdict : RecordingParts → Verdict → Type 0
IsVerdict r (Accepted checkpoints steps) = IsAccepted r checkpoints steps
IsVerdict r (FalseAt checkpoint count part) = IsFirstFalse r checkpoint count part
