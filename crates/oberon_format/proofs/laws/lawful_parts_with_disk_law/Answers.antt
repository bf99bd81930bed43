use Rattle.oberon_format.proofs.Common.{refl, VERSION_WITH_DISK}
use Rattle.oberon_format.proofs.LawfulLemmas.{lawful_parts, parts_lawful}
use Rattle.oberon_format.proofs.laws.lawful_parts_with_disk_law.Goals as goal

pub returns : goal.returns
returns c = λ r pages ordered formed. (parts_lawful VERSION_WITH_DISK r refl pages ordered formed, λ lawful. lawful_parts VERSION_WITH_DISK r refl lawful (λ other. absurd cc))
