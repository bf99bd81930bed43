use Rattle.oberon_format.proofs.Common.{each, first_broken, None, page_id_offset, page_id_rules, word_at, ◌≡◌}
use Rattle.oberon_format.proofs.rules.page_ids_fault.Given as goal

abbrev pub invariant-loop-j : goal.invariant-loop-j
invariant-loop-j l = first_broken (each l.j (page_id_rules l.pages l.offset (λ j. word_at l.bytes (page_id_offset l.offset j)))) ≡ None
