use Rattle.std.proofs.Common.{nat_lt, arith}
use Rattle.std.proofs.lemmas.List.Sorted.{IsPartitionedBy-ltb, IsPartitionPoint-from_clause}
use Rattle.risc_model.specs.declared.event.Event.{Event}
use Rattle.risc_model.proofs.OrderLemmas.{counts-rise, found-next}
use Rattle.risc_model.proofs.inputs.first_from.Goals as goal

pub returns : goal.returns
returns c =
    let es = c.args.events.now in
    found-next es _ c.args.at c.requires c.partition_point.ensures.bound
    (IsPartitionPoint-from_clause (λ (e : Event). nat_lt e.count c.args.at) es _ c.partition_point.ensures.partitioned
    (IsPartitionedBy-ltb (λ (e : Event). e.count) es c.args.at (counts-rise es c.requires))
    (λ a r f' k. search arith))
