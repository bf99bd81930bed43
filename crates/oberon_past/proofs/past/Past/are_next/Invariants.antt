use Rattle.oberon_past.specs.inner.Following.{FollowUpTo}
use Rattle.oberon_past.proofs.past.Past.are_next.Given as goal

abbrev pub invariant-loop-event : goal.invariant-loop-event
invariant-loop-event l = FollowUpTo l.self.run.inputs l.inputs l.self.end l.event-index l.least
