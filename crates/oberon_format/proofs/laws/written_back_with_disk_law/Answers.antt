use Rattle.oberon_format.proofs.Common.{refl, sym, version, ◌∙◌}
use Rattle.oberon_format.proofs.One.{in_version}
use Rattle.oberon_format.proofs.laws.written_back_with_disk_law.Goals as goal

pub returns : goal.returns
returns c = λ bytes other r read written. written.is ∙ sym (in_version (version bytes) bytes r refl read).is
