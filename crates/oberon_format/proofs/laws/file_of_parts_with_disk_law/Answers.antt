use Rattle.oberon_format.proofs.Common.{refl, VERSION_WITH_DISK}
use Rattle.oberon_format.proofs.LawLemmas.{file_of_parts}
use Rattle.oberon_format.proofs.laws.file_of_parts_with_disk_law.Goals as goal

pub returns : goal.returns
returns c = file_of_parts VERSION_WITH_DISK refl
