use Rattle.std.proofs.Common.{arith}
use Rattle.oberon_cli.proofs.service.send.Goals as goal

pub returns-in-Err : goal.returns-in-Err
returns-in-Err g c = search arith
