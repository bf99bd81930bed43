use Rattle.oberon_session.proofs.StoredLaws.{stored-law}
use Rattle.oberon_session.proofs.laws.laid_law.Goals as goal

pub returns : goal.returns
returns c = stored-law
