use Rattle.std.proofs.Common.{arith}
use Rattle.std.proofs.lemmas.Grind.{common_steps}
use Rattle.oberon_format.specs.Encoding.{checkpoint_bytes, tail_bytes}
use Rattle.oberon_format.proofs.writing.push_checkpoint.Goals as goal

pub returns : goal.returns
unfolding checkpoint_bytes tail_bytes
returns c = grind (arith, common_steps)
