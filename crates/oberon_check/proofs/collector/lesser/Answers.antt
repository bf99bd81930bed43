use Rattle.std.proofs.Common.{arith}
use Rattle.oberon_check.proofs.collector.lesser.Goals as goal

pub returns-in_default : goal.returns-in_default
returns-in_default c = search arith

pub returns-in-Some-least : goal.returns-in-Some-least
returns-in-Some-least c = search arith

pub returns-in_default-least : goal.returns-in_default-least
returns-in_default-least c = search arith

pub returns-in_default-least-2 : goal.returns-in_default-least-2
returns-in_default-least-2 c = search arith
