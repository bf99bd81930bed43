use Rattle.std.proofs.Common.{◌≡◌, ◌++◌, take}
use Rattle.std.specs.List.{flat_map}
use Rattle.recording_texts.specs.Layout.{event_bytes}
use Rattle.recording_texts.proofs.sketch.push_events.Given as goal

abbrev pub invariant-loop-event : goal.invariant-loop-event
invariant-loop-event l = l.file.items ≡ l.fn.file.items ++ flat_map event_bytes (take l.event-index l.events)
