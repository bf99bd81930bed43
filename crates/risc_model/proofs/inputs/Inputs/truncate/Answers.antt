use Rattle.risc_model.proofs.OrderLemmas.{ordered-take}
use Rattle.risc_model.proofs.inputs.Inputs.truncate.Goals as goal

pub invariant_of-self : goal.invariant_of-self
invariant_of-self c = rw c.truncate.ensures.items (ordered-take c.self.inside.list.items c.args.index c.self.invariant)
