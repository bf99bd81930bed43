use Rattle.oberon_format.proofs.Common.{sym, VERSION, ◌∙◌}
use Rattle.oberon_format.proofs.One.{in_version}
use Rattle.oberon_format.proofs.PlainLemmas.{with_disk}
use Rattle.oberon_format.proofs.laws.written_back_law.Goals as goal

pub returns : goal.returns
returns c = λ bytes other r is read written. written.is ∙ sym (in_version VERSION bytes r is (with_disk bytes r read)).is
