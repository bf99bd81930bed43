use Rattle.std.proofs.Common.{arith}
use Rattle.oberon_cli.proofs.arguments.Request.limit.Goals as goal

pub returns-in-Check : goal.returns-in-Check
returns-in-Check c = search arith

pub returns-in-Record : goal.returns-in-Record
returns-in-Record c = search arith
