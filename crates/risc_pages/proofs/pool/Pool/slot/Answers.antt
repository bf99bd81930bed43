use Rattle.std.proofs.Common.{sym, ◌∙◌, arith}
use Rattle.risc_pages.proofs.PoolLemmas.{page_of-zero}
use Rattle.risc_pages.proofs.pool.Pool.slot.Goals as goal

pub returns-then-page_id-eq0-clause-words : goal.returns-then-page_id-eq0-clause-words
returns-then-page_id-eq0-clause-words c = c.self.inside.zeros.blank ∙ sym (page_of-zero _ _ c.if-page_id-eq0.true)

pub returns-else-page_id-eq0-clause-words : goal.returns-else-page_id-eq0-clause-words
returns-else-page_id-eq0-clause-words c = search arith
