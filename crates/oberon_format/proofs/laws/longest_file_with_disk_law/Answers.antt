use Rattle.oberon_format.proofs.Common.{arith}
use Rattle.oberon_format.proofs.Cut.{file_within}
use Rattle.oberon_format.proofs.PartLemmas.{longest_most}
use Rattle.oberon_format.proofs.laws.longest_file_with_disk_law.Goals as goal

pub returns : goal.returns
returns c = λ bytes r text. omega (arith, file_within text.version bytes r text.is, longest_most text.version)
