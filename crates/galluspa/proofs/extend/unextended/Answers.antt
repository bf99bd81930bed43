use Rattle.std.proofs.Common.{arith}
use Rattle.galluspa.proofs.extend.unextended.Goals as goal

pub returns-in-Order : goal.returns-in-Order
returns-in-Order c = search arith
