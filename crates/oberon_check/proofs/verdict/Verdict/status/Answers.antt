use Rattle.std.proofs.Common.{arith}
use Rattle.oberon_check.proofs.verdict.Verdict.status.Goals as goal

pub returns-in-Accepted : goal.returns-in-Accepted
returns-in-Accepted c = search arith

pub returns-in-FalseAt : goal.returns-in-FalseAt
returns-in-FalseAt c = search arith
