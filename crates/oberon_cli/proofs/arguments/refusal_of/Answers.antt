use Rattle.std.proofs.Common.{arith}
use Rattle.oberon_cli.proofs.arguments.refusal_of.Goals as goal

pub returns-in-DisplayHelp : goal.returns-in-DisplayHelp
returns-in-DisplayHelp c = search arith

pub returns-in-OutOfMemory : goal.returns-in-OutOfMemory
returns-in-OutOfMemory c = search arith

pub returns-in_default : goal.returns-in_default
returns-in_default c = search arith
