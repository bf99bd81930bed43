use Rattle.std.proofs.Common.{arith}
use Rattle.oberon_format.specs.Rules.{rules}
use Rattle.oberon_format.proofs.reading.read_with_disk.Goals as goal

pub returns-in-Err : goal.returns-in-Err
unfolding rules
returns-in-Err c = search arith
