use Rattle.oberon_format.proofs.Common.{arith, version}
use Rattle.oberon_format.proofs.Cut.{first_fault_with_disk-take}
use Rattle.oberon_format.proofs.PartLemmas.{longest_most}
use Rattle.oberon_format.proofs.laws.cut_file_with_disk_law.Goals as goal

pub returns : goal.returns
returns c = λ n bytes over. first_fault_with_disk-take n bytes (omega (arith, longest_most (version bytes)))
