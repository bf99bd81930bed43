use Rattle.std.proofs.Common.{◌≡◌, ◌<◌, ◌≤◌, ℕ, length, slice_index_or}
use Rattle.oberon_format.specs.Recording.{checkpoint_at}
use Rattle.galluspa.specs.declared.claims.RawCheckpoint.{RawCheckpoint}
use Rattle.galluspa.specs.inner.Claiming.{IsRawCheckpoint}
use Rattle.galluspa.proofs.claims.write_checkpoints.Given as goal

abbrev pub invariant-loop-k : goal.invariant-loop-k
invariant-loop-k l = record {
  count : length l.checkpoints ≡ length l.fn.checkpoints;
  each : (k : ℕ) (d : RawCheckpoint) → k < l.k → IsRawCheckpoint (checkpoint_at l.recording k) (slice_index_or l.checkpoints k d);
  rest : (k : ℕ) (d : RawCheckpoint) → l.k ≤ k → slice_index_or l.checkpoints k d ≡ slice_index_or l.fn.checkpoints k d;
}
