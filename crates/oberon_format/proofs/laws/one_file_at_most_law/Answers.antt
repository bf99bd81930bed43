use Rattle.oberon_format.proofs.Common.{sym, ◌∙◌}
use Rattle.oberon_format.proofs.laws.one_file_at_most_law.Goals as goal

pub returns : goal.returns
returns c = λ version r bytes other is also. also.is ∙ sym is.is
