use Rattle.std.proofs.Common.{map}
use Rattle.oberon_format.specs.CheckpointParts.{checkpoint_parts}
use Rattle.oberon_session.specs.Stored.{stored_view}
use Rattle.oberon_session.specs.inner.Progress.{IsRecorded}
use Rattle.oberon_session.proofs.recorder.make_recording.Given as goal

abbrev pub invariant-loop-k : goal.invariant-loop-k
invariant-loop-k l = IsRecorded l.session l.k (stored_view l.recorder.stored) (map checkpoint_parts l.recorder.checkpoints.items) l.recorder.sent
