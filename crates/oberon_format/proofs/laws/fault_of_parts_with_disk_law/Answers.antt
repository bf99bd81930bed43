use Rattle.oberon_format.proofs.Common.{arith, refl, VERSION_WITH_DISK, ◌∙◌}
use Rattle.oberon_format.proofs.Agree.{encoding_agrees}
use Rattle.oberon_format.proofs.LawfulLemmas.{parts_of_file}
use Rattle.oberon_format.proofs.laws.fault_of_parts_with_disk_law.Goals as goal

pub returns : goal.returns
returns c = λ r fits. encoding_agrees VERSION_WITH_DISK r refl (λ first. absurd (omega arith)) fits ∙ parts_of_file VERSION_WITH_DISK r (λ other. absurd cc)
