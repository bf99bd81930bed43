use Rattle.oberon_format.proofs.Common.{VERSION}
use Rattle.oberon_format.proofs.One.{same_recording_with_disk}
use Rattle.oberon_format.proofs.PlainLemmas.{with_disk}
use Rattle.oberon_format.proofs.laws.read_back_law.Goals as goal

pub returns : goal.returns
returns c = λ r s bytes written read. same_recording_with_disk bytes s r (with_disk bytes s read) (record { version = VERSION; is = written })
