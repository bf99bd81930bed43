use Rattle.oberon_format.proofs.Common.{EachAt, IsEventAt, length, ◌≡◌}
use Rattle.oberon_format.proofs.reading.events_of.Given as goal

abbrev pub invariant-loop-i : goal.invariant-loop-i
invariant-loop-i l = record { len : length l.list.items ≡ l.i; each : EachAt (IsEventAt l.bytes) l.list.items }
