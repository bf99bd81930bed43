use Rattle.oberon_format.proofs.Common.{refl, sym, ◌∙◌}
use Rattle.oberon_format.proofs.PlainLemmas.{answers_other, answers_version}
use Rattle.oberon_format.proofs.reading.read.Goals as goal

pub returns-in-Some : goal.returns-in-Some
returns-in-Some c = answers_version c.args.bytes.now c.in-Some.fault _ (sym c.version_fault.ensures ∙ c.in-Some.is) refl

pub returns : goal.returns
returns c = answers_other c.args.bytes.now c.read_with_disk.result (sym c.version_fault.ensures ∙ c.in_default.is) c.read_with_disk.ensures
