use Rattle.std.proofs.Common.{arith}
use Rattle.oberon_check.proofs.verdict.Verdict.line.Goals as goal

pub returns : goal.returns
returns c = search arith
