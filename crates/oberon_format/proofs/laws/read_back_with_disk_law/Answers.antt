use Rattle.oberon_format.proofs.One.{same_recording_with_disk}
use Rattle.oberon_format.proofs.laws.read_back_with_disk_law.Goals as goal

pub returns : goal.returns
returns c = λ version r s bytes written read. same_recording_with_disk bytes s r read (record { version = version; is = written })
