use Rattle.std.proofs.Common.{arith}
use Rattle.std.proofs.lemmas.Grind.{common_steps}
use Rattle.risc_pages.proofs.PoolLemmas.{ArePages-map}
use Rattle.risc_pages.proofs.pool.Pool.len.Goals as goal

pub returns-clause-pages : goal.returns-clause-pages
returns-clause-pages c = ArePages-map _ _ c.self.view_is

pub returns-clause-count : goal.returns-clause-count
returns-clause-count c = grind (arith, common_steps)
