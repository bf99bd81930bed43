use Rattle.std.proofs.Common.{refl}
use Rattle.recording_limits.proofs.laws.limits_law.Goals as goal

pub returns : goal.returns
returns c = record { output = refl; pages = refl; events = refl; events_with_disk = refl; checkpoints = refl; session = refl }
