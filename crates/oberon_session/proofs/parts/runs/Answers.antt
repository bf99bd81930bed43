use Rattle.std.proofs.Common.{arith}
use Rattle.oberon_session.proofs.parts.runs.Goals as goal

pub returns-then-cpu-lt-COUNTER_END : goal.returns-then-cpu-lt-COUNTER_END
returns-then-cpu-lt-COUNTER_END c = search arith
