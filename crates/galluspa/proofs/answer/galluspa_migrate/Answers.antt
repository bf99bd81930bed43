use Rattle.std.proofs.Common.{arith}
use Rattle.galluspa.proofs.answer.galluspa_migrate.Goals as goal

pub returns-in-Ok-clause-migrated : goal.returns-in-Ok-clause-migrated
returns-in-Ok-clause-migrated c = λ some fits. rw (c.put.ensures.bytes some fits, c.put.ensures.status some fits) c.in-Ok.ensures

pub returns-in-Ok-clause-needed : goal.returns-in-Ok-clause-needed
returns-in-Ok-clause-needed c = λ more. (c.in-Ok.answer.bytes.items, (c.in-Ok.answer.status, c.in-Ok.ensures), omega arith, more)
