use Rattle.std.proofs.Common.{arith}
use Rattle.oberon_session.proofs.following.are_between.Goals as goal

pub returns : goal.returns
returns c = search arith
