use Rattle.oberon_format.proofs.Cut.{first_fault_of-take}
use Rattle.oberon_format.proofs.laws.cut_file_law.Goals as goal

pub returns : goal.returns
returns c = first_fault_of-take
