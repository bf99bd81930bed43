use Rattle.oberon_format.proofs.Common.{◌∙◌}
use Rattle.oberon_format.proofs.Bytes.{long_at-drop}
use Rattle.oberon_format.proofs.number.u64_at.Goals as goal

pub returns : goal.returns
returns c = c.read_u64.ensures ∙ long_at-drop c.args.offset c.args.bytes.now
