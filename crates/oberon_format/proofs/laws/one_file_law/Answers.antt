use Rattle.oberon_format.proofs.Common.{encoding, refl, VERSION}
use Rattle.oberon_format.proofs.Encoded.{encoded, writable}
use Rattle.oberon_format.proofs.LawLemmas.{file_of_parts}
use Rattle.oberon_format.proofs.PlainLemmas.{general, plain}
use Rattle.oberon_format.proofs.laws.one_file_law.Goals as goal

pub returns : goal.returns
returns c = λ r lawful. (encoding VERSION r, file_of_parts VERSION refl r (writable r (general r lawful)), encoded VERSION r refl refl (general r lawful) (λ other. plain r lawful))
