-- The fields of a recording file that rules mention, independent of their layout.
use Rattle.std.specs.Prelude.{ℕ, zero, suc, ◌+◌}
use Rattle.oberon_format.specs.declared.change.Change.{Change}
use Rattle.oberon_format.specs.declared.fields.CheckpointFields.{CheckpointFields}

-- an event: its count, the number of its kind, and its value
pub record EventFields : Type 0 where
  pub count : ℕ
  pub kind : ℕ
  pub value : ℕ

-- the fields of a file: its length, the six numbers of its header, event i, the offset of checkpoint k, those fields of
-- checkpoint k that have a range (the code's type `CheckpointFields`), its change i, and entry j of its table
pub record Fields : Type 0 where
  pub long : ℕ
  pub first : ℕ
  pub version : ℕ
  pub pages : ℕ
  pub events : ℕ
  pub checkpoints : ℕ
  pub last : ℕ
  pub event : ℕ → EventFields
  pub start : ℕ → ℕ
  pub checkpoint : ℕ → CheckpointFields
  pub change : ℕ → ℕ → Change
  pub page_id : ℕ → ℕ → ℕ

-- f 0 + f 1 + .. + f (k - 1)
unfoldable pub total : (ℕ → ℕ) → ℕ → ℕ
total f zero = 0
total f (suc k) = total f k + f k

-- the length of the output of all checkpoints before checkpoint k
abbrev pub sent_below : Fields → ℕ → ℕ
sent_below f k = total (λ i. (f.checkpoint i).output) k
