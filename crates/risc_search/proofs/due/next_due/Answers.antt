use Rattle.risc_search.proofs.DueLemmas.{quiet-between}
use Rattle.risc_search.proofs.due.next_due.Goals as goal

pub returns-clause-quiet : goal.returns-clause-quiet
returns-clause-quiet c =
    quiet-between c.args.events.now c.first_from-next.result c.args.at c.quiet_until.result c.first_from-next.ensures c.quiet_until.ensures.next
