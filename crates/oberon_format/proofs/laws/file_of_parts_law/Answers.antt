use Rattle.oberon_format.proofs.Common.{refl, VERSION}
use Rattle.oberon_format.proofs.LawLemmas.{file_of_parts}
use Rattle.oberon_format.proofs.PlainLemmas.{writable_any}
use Rattle.oberon_format.proofs.laws.file_of_parts_law.Goals as goal

pub returns : goal.returns
returns c = λ r fits. file_of_parts VERSION refl r (writable_any r fits)
