use Rattle.oberon_format.proofs.Cut.{plain_file_within}
use Rattle.oberon_format.proofs.laws.longest_file_law.Goals as goal

pub returns : goal.returns
returns c = plain_file_within
