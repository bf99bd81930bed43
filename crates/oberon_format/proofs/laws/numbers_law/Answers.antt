use Rattle.oberon_format.proofs.laws.numbers_law.Goals as goal

pub returns : goal.returns
returns c = assumption
