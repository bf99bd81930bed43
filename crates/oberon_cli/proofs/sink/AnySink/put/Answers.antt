use Rattle.std.proofs.Common.{arith}
use Rattle.oberon_cli.proofs.SinkLemmas.{none_taken}
use Rattle.oberon_cli.proofs.sink.AnySink.put.Goals as goal

pub returns-in-Ok-eq0-clause-bytes : goal.returns-in-Ok-eq0-clause-bytes
returns-in-Ok-eq0-clause-bytes g c = none_taken _ _ _ c.args.rest.now (search arith) c.in-Ok-eq0.ensures.bytes

pub returns-in-Ok-eq0-2-clause-bytes : goal.returns-in-Ok-eq0-2-clause-bytes
returns-in-Ok-eq0-2-clause-bytes g c = search arith
