use Rattle.galluspa.proofs.FrameLemmas.{frame_law-holds}
use Rattle.galluspa.proofs.laws.frame_law.Goals as goal

pub returns : goal.returns
returns c = frame_law-holds
