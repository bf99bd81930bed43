use Rattle.oberon_format.proofs.Common.{refl, VERSION}
use Rattle.oberon_format.proofs.LawfulLemmas.{lawful_parts, parts_lawful, parts_plain}
use Rattle.oberon_format.proofs.PlainLemmas.{both_lawful, general, plain}
use Rattle.oberon_format.proofs.laws.lawful_parts_law.Goals as goal

pub returns : goal.returns
returns c = λ r pages ordered formed. (
  λ none. both_lawful r (parts_lawful VERSION r refl pages ordered formed none) (parts_plain VERSION r none refl),
  λ lawful. lawful_parts VERSION r refl (general r lawful) (λ other. plain r lawful),
)
