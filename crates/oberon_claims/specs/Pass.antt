-- The claim book and its passes as contracts see them. The protocol is this project's own.
use Rattle.std.specs.Prelude.{ℕ, List, [], ◌∷◌, ◌++◌, Bool, true, false}
use Rattle.atomic_table.specs.Seated.{TableId}

-- the identity of a book, and the numbers of jobs and workers that it was made with. No two books that exist at the same time
-- have the same table
pub record BookId : Type 0 where
  pub table : TableId
  pub jobs : ℕ
  pub workers : ℕ

-- a pass: its book; the jobs that it took, the segments that it reported and the values that it was shown, each in the order
-- of the calls; and whether a claim with it was answered `None`
pub record PassRecord : Type 0 where
  pub book : BookId
  pub taken : List ℕ
  pub reported : List ℕ
  pub shown : List ℕ
  pub ended : Bool

-- a pass that was not used yet
abbrev pub fresh_pass : BookId → PassRecord
fresh_pass book = record { book = book; taken = []; reported = []; shown = []; ended = false }

-- the pass after it took a job
abbrev pub pass_with_job : PassRecord → ℕ → PassRecord
pass_with_job p job = record p { taken = p.taken ++ job ∷ [] }

-- the pass after a claim was answered `None`
abbrev pub pass_with_end : PassRecord → PassRecord
pass_with_end p = record p { ended = true }

-- the pass after it reported a segment
abbrev pub pass_with_reported : PassRecord → ℕ → PassRecord
pass_with_reported p segment = record p { reported = p.reported ++ segment ∷ [] }

-- the pass after it was shown a segment
abbrev pub pass_with_shown : PassRecord → ℕ → PassRecord
pass_with_shown p segment = record p { shown = p.shown ++ segment ∷ [] }
