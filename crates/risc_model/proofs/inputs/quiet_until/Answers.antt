use Rattle.std.proofs.Common.{arith}
use Rattle.risc_model.proofs.OrderLemmas.{count_at-is, next-up_to}
use Rattle.risc_model.proofs.inputs.quiet_until.Goals as goal

pub returns-then-due-to-clause-next : goal.returns-then-due-to-clause-next
returns-then-due-to-clause-next c =
    let es = c.args.events.now in
    let here = count_at-is es c.args.index c.index-events-index.result c.if-index-events.true in
    let rest = c.requires.next.rest c.args.index (omega arith) c.if-index-events.true in
    next-up_to es c.args.index c.args.at _ c.requires.next (omega arith) (λ _. omega arith)

pub returns-else-due-to-clause-next : goal.returns-else-due-to-clause-next
returns-else-due-to-clause-next c =
    let es = c.args.events.now in
    next-up_to es c.args.index c.args.at c.args.to c.requires.next c.requires.forward
    (λ inside. let here = count_at-is es c.args.index c.index-events-index.result inside in let late = c.if-due-to.false in omega arith)
