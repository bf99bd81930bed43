use Rattle.galluspa.proofs.JoinLemmas.{join_law-holds}
use Rattle.galluspa.proofs.laws.join_law.Goals as goal

pub returns : goal.returns
returns c = join_law-holds
