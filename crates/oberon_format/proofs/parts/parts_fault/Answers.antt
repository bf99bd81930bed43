use Rattle.oberon_format.proofs.Common.{checkpoint_parts, fault_in, length, length-map, parts_of, refl, sym, ◌∙◌, ◌≡◌}
use Rattle.oberon_format.proofs.LawfulLemmas.{if_none, parts_in_order, parts_lawful, parts_plain}
use Rattle.oberon_format.proofs.parts.parts_fault.Goals as goal

pub returns-in-Some-clause-fault : goal.returns-in-Some-clause-fault
returns-in-Some-clause-fault c =
    let checkpoints = c.args.checkpoints.now in let len = length-map checkpoints checkpoint_parts in
    sym (parts_in_order c.args.version (parts_of c.args.pool.now c.args.inputs.now checkpoints) (length checkpoints) _ _ _ _ (sym len)
    (sym c.in-Some.is ∙ c.counts_fault.ensures.fault) refl refl refl)

pub returns-in-Some-events_fault-clause-fault : goal.returns-in-Some-events_fault-clause-fault
returns-in-Some-events_fault-clause-fault c =
    let checkpoints = c.args.checkpoints.now in let len = length-map checkpoints checkpoint_parts in
    sym (parts_in_order c.args.version (parts_of c.args.pool.now c.args.inputs.now checkpoints) (length checkpoints) _ _ _ _ (sym len)
    (sym c.in_default.is ∙ c.counts_fault.ensures.fault) (sym c.in-Some-events_fault.is ∙ c.events_fault.ensures) refl refl)

pub returns-in-Some-checkpoints_fault-clause-fault : goal.returns-in-Some-checkpoints_fault-clause-fault
returns-in-Some-checkpoints_fault-clause-fault c =
    let checkpoints = c.args.checkpoints.now in let len = length-map checkpoints checkpoint_parts in
    sym (parts_in_order c.args.version (parts_of c.args.pool.now c.args.inputs.now checkpoints) (length checkpoints) _ _ _ _ (sym len)
    (sym c.in_default.is ∙ c.counts_fault.ensures.fault) (sym c.in_default-events_fault.is ∙ c.events_fault.ensures)
    (sym c.in-Some-checkpoints_fault.is ∙ c.checkpoints_fault.ensures) refl)

pub returns-clause-fault : goal.returns-clause-fault
returns-clause-fault c =
    let checkpoints = c.args.checkpoints.now in let len = length-map checkpoints checkpoint_parts in
    sym (parts_in_order c.args.version (parts_of c.args.pool.now c.args.inputs.now checkpoints) (length checkpoints) _ _ _ _ (sym len)
    (sym c.in_default.is ∙ c.counts_fault.ensures.fault) (sym c.in_default-events_fault.is ∙ c.events_fault.ensures)
    (sym c.in_default-checkpoints_fault.is ∙ c.checkpoints_fault.ensures) c.answers_fault.ensures)

pub returns-clause-lawful : goal.returns-clause-lawful
returns-clause-lawful c =
    let checkpoints = c.args.checkpoints.now in let len = length-map checkpoints checkpoint_parts in
    let r = parts_of c.args.pool.now c.args.inputs.now checkpoints in
    let is : fault_in c.args.version r ≡ c.answers_fault.result = parts_in_order c.args.version r (length checkpoints) _ _ _ _ (sym len)
    (sym c.in_default.is ∙ c.counts_fault.ensures.fault) (sym c.in_default-events_fault.is ∙ c.events_fault.ensures)
    (sym c.in_default-checkpoints_fault.is ∙ c.checkpoints_fault.ensures) c.answers_fault.ensures in
    if_none c.answers_fault.result _ (λ none. parts_lawful c.args.version r c.requires.known c.len-pages.ensures.pages c.events-events.ensures.ordered c.all_formed_law.ensures (is ∙ none))

pub returns-clause-plain : goal.returns-clause-plain
returns-clause-plain c =
    let checkpoints = c.args.checkpoints.now in let len = length-map checkpoints checkpoint_parts in
    let r = parts_of c.args.pool.now c.args.inputs.now checkpoints in
    let is : fault_in c.args.version r ≡ c.answers_fault.result = parts_in_order c.args.version r (length checkpoints) _ _ _ _ (sym len)
    (sym c.in_default.is ∙ c.counts_fault.ensures.fault) (sym c.in_default-events_fault.is ∙ c.events_fault.ensures)
    (sym c.in_default-checkpoints_fault.is ∙ c.checkpoints_fault.ensures) c.answers_fault.ensures in
    if_none c.answers_fault.result _ (λ none. parts_plain c.args.version r (is ∙ none))
