use Rattle.galluspa.proofs.LiveLemmas.{come-not}
use Rattle.galluspa.proofs.input.add_inputs.Goals as goal

pub returns-in-Err-Order-clause-range : goal.returns-in-Err-Order-clause-range
returns-in-Err-Order-clause-range c = λ _.
    come-not c.args.inputs.now c.in_ok-inputs.inputs c.args.past.now c.in_ok-inputs.ensures
    (rw c.events.ensures.events at rw c.in-Err-Order.field-0-is at c.in-Err-Order.ensures.refused)
