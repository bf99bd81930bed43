use Rattle.galluspa.proofs.LiveLemmas.{come-late, come-next}
use Rattle.galluspa.proofs.input.come_next.Goals as goal

pub returns-then-are_in_order : goal.returns-then-are_in_order
returns-then-are_in_order c =
    let p = c.args.past.now in
    let inputs = c.args.inputs.now in (
      λ yes. come-next p c.next_input.result c.next_input.ensures inputs (c.are_in_order.ensures.0 c.if-are_in_order.true) (c.are_from.ensures.0 yes),
      λ come. c.are_from.ensures.1 (come-late p c.next_input.result c.next_input.ensures inputs come),
    )
