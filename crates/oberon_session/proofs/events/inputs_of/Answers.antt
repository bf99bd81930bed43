use Rattle.std.proofs.Common.{arith}
use Rattle.std.proofs.lemmas.List.{length-map}
use Rattle.oberon_session.proofs.Orders.{ordered-falls, wrong-falls}
use Rattle.oberon_session.proofs.events.inputs_of.Goals as goal

pub returns-in-Ok-clause-order : goal.returns-in-Ok-clause-order
returns-in-Ok-clause-order c = ordered-falls _ _ c.in_ok-events.ensures.numbers c.in-Ok.ensures.ordered

pub returns-clause-err : goal.returns-clause-err
returns-clause-err c = (
  (simp length-map (omega arith), c.in_ok-events.ensures.fit),
  wrong-falls _ _ c.in_ok-events.ensures.numbers _ c.in_ok-events.ensures.fit c.in-Err.ensures.first_wrong,
)
