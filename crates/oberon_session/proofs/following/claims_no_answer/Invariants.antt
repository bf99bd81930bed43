use Rattle.std.proofs.Common.{◌<◌, ℕ}
use Rattle.oberon_format.specs.Recording.{IsUnanswered, checkpoint_at}
use Rattle.oberon_session.proofs.following.claims_no_answer.Given as goal

abbrev pub invariant-loop-k : goal.invariant-loop-k
invariant-loop-k l = (j : ℕ) → j < l.k → IsUnanswered (checkpoint_at l.recording j)
