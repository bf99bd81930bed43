use Rattle.std.proofs.Common.{arith}
use Rattle.galluspa.proofs.raw.parts_of.Goals as goal

pub returns-clause-whole : goal.returns-clause-whole
returns-clause-whole c = search arith
