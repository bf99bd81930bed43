use Rattle.oberon_format.proofs.Common.{event_bytes, flat_map, take, ◌++◌, ◌≡◌}
use Rattle.oberon_format.proofs.writing.push_events.Given as goal

abbrev pub invariant-loop-event : goal.invariant-loop-event
invariant-loop-event l = l.out.items ≡ l.fn.out.items ++ flat_map event_bytes (take l.event-index l.events)
