use Rattle.std.proofs.Common.{sym}
use Rattle.risc_search.proofs.ClauseLemmas.{joined-is}
use Rattle.risc_search.proofs.clauses.is_joined.Goals as goal

pub returns : goal.returns
returns c = sym (joined-is c.args.clauses.now c.args.index _ c.requires)
