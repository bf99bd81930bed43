use Rattle.oberon_format.proofs.One.{same_recording_with_disk}
use Rattle.oberon_format.proofs.laws.one_recording_with_disk_law.Goals as goal

pub returns : goal.returns
returns c = same_recording_with_disk
