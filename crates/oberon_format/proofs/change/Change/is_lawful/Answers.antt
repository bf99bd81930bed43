use Rattle.std.proofs.Common.{arith}
use Rattle.oberon_format.proofs.change.Change.is_lawful.Goals as goal

pub returns-then-self-pages : goal.returns-then-self-pages
returns-then-self-pages c = search arith
