use Rattle.std.proofs.Common.{arith}
use Rattle.oberon_format.proofs.fields.CheckpointFields.in_ranges.Goals as goal

pub returns-then-self-lt-SERIAL_END : goal.returns-then-self-lt-SERIAL_END
returns-then-self-lt-SERIAL_END c = search arith

pub returns-else-self-lt-SERIAL_END : goal.returns-else-self-lt-SERIAL_END
returns-else-self-lt-SERIAL_END c = search arith
