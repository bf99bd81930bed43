use Rattle.oberon_card.proofs.LawLemmas.{read_law-holds}
use Rattle.oberon_card.proofs.laws.read_law.Goals as goal

pub returns : goal.returns
returns c = read_law-holds
