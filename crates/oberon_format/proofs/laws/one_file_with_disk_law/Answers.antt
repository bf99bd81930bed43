use Rattle.oberon_format.proofs.Common.{encoding, refl, VERSION_WITH_DISK}
use Rattle.oberon_format.proofs.Encoded.{encoded, writable}
use Rattle.oberon_format.proofs.LawLemmas.{file_of_parts}
use Rattle.oberon_format.proofs.laws.one_file_with_disk_law.Goals as goal

pub returns : goal.returns
returns c = λ r lawful. (encoding VERSION_WITH_DISK r, file_of_parts VERSION_WITH_DISK refl r (writable r lawful), encoded VERSION_WITH_DISK r refl refl lawful (λ other. absurd cc))
