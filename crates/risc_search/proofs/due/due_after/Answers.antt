use Rattle.risc_search.proofs.due.due_after.Goals as goal

pub returns-else-at-due-clause-quiet : goal.returns-else-at-due-clause-quiet
returns-else-at-due-clause-quiet c = c.next_due.ensures.quiet
