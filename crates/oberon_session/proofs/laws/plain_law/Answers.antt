use Rattle.oberon_session.proofs.Plain.{plain-law}
use Rattle.oberon_session.proofs.laws.plain_law.Goals as goal

pub returns : goal.returns
returns c = plain-law
