use Rattle.oberon_format.proofs.Common.{each, event_rules, fields_of, first_broken, None, ◌≡◌}
use Rattle.oberon_format.proofs.rules.events_fault.Given as goal

abbrev pub invariant-loop-i : goal.invariant-loop-i
invariant-loop-i l = first_broken (each l.i (event_rules (fields_of l.bytes))) ≡ None
