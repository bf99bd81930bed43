use Rattle.std.proofs.Common.{arith}
use Rattle.galluspa.proofs.answer.galluspa_check.Goals as goal

pub returns-in-Ok-clause-line : goal.returns-in-Ok-clause-line
returns-in-Ok-clause-line c = λ some fits. rw (c.put.ensures.bytes some fits, c.put.ensures.status some fits) c.in-Ok.ensures.line

pub returns-in-Ok-clause-needed : goal.returns-in-Ok-clause-needed
returns-in-Ok-clause-needed c = λ more. (c.in-Ok.answer.bytes.items, (c.in-Ok.answer.status, c.in-Ok.ensures.line), omega arith, more)
