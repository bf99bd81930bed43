use Rattle.std.proofs.Common.{arith}
use Rattle.oberon_session.proofs.range.pages_fit.Goals as goal

pub returns-then-pages : goal.returns-then-pages
returns-then-pages c = search arith
