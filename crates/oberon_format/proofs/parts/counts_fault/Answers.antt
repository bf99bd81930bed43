use Rattle.oberon_format.proofs.Common.{ap, checkpoint_parts, Event, first_broken, length, length-map, limit_rules, List, parts_of, sym, ℕ, ◌∙◌}
use Rattle.oberon_format.proofs.LawfulLemmas.{parts_limits}
use Rattle.oberon_format.proofs.parts.counts_fault.Goals as goal

pub returns-clause-fault : goal.returns-clause-fault
returns-clause-fault c =
    let pool = c.args.pool.now in let inputs = c.args.inputs.now in let checkpoints = c.args.checkpoints.now in
    let len = length-map checkpoints checkpoint_parts in
    let events = ap (λ (es : List Event). length es) c.events.ensures.events in
    c.limits_fault.ensures.fault ∙ ap (λ (n : ℕ). first_broken (limit_rules c.args.version n (length c.events.result.now) (length checkpoints))) c.len.ensures.count
    ∙ ap (λ (n : ℕ). first_broken (limit_rules c.args.version (length pool) n (length checkpoints))) events
    ∙ ap (λ (n : ℕ). first_broken (limit_rules c.args.version (length pool) (length inputs) n)) (sym len) ∙ sym (parts_limits c.args.version (parts_of pool inputs checkpoints) c.requires)
