use Rattle.oberon_format.proofs.Common.{first_fault_of, refl}
use Rattle.oberon_format.proofs.LawLemmas.{by_plain_fault}
use Rattle.oberon_format.proofs.laws.file_or_fault_law.Goals as goal

pub returns : goal.returns
returns c = λ bytes are_bytes. by_plain_fault bytes (first_fault_of bytes) are_bytes refl
