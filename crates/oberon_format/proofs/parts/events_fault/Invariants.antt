use Rattle.oberon_format.proofs.Common.{[], each, event_rules, fields_in, first_broken, None, parts_of, ◌≡◌}
use Rattle.oberon_format.proofs.parts.events_fault.Given as goal

-- no input so far is an answer
abbrev pub invariant-loop-i : goal.invariant-loop-i
invariant-loop-i l = first_broken (each l.i (event_rules (fields_in l.version (parts_of l.pool l.inputs [])))) ≡ None
