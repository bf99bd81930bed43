use Rattle.std.proofs.Common.{arith}
use Rattle.oberon_answers.proofs.display.screen_of.Goals as goal

pub returns-else-at-count : goal.returns-else-at-count
returns-else-at-count c = search arith

pub returns-then-at-count : goal.returns-then-at-count
returns-then-at-count c = search arith
