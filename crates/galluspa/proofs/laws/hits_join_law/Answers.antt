use Rattle.galluspa.proofs.HitLemmas.{hits_join_law-holds}
use Rattle.galluspa.proofs.laws.hits_join_law.Goals as goal

pub returns : goal.returns
returns c = hits_join_law-holds
