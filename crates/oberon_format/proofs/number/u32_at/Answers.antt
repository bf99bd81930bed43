use Rattle.oberon_format.proofs.Common.{◌∙◌}
use Rattle.oberon_format.proofs.Bytes.{word_at-drop}
use Rattle.oberon_format.proofs.number.u32_at.Goals as goal

pub returns : goal.returns
returns c = c.read_u32.ensures ∙ word_at-drop c.args.offset c.args.bytes.now
