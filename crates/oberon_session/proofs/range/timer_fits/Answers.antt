use Rattle.std.proofs.Common.{arith}
use Rattle.oberon_session.proofs.range.timer_fits.Goals as goal

pub returns-then-phase : goal.returns-then-phase
returns-then-phase c = search arith
