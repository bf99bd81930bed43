use Rattle.oberon_format.proofs.Common.{first_fault_with_disk, refl}
use Rattle.oberon_format.proofs.LawLemmas.{by_fault}
use Rattle.oberon_format.proofs.laws.file_or_fault_with_disk_law.Goals as goal

pub returns : goal.returns
returns c = λ bytes are_bytes. by_fault bytes (first_fault_with_disk bytes) are_bytes refl
