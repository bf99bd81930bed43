use Rattle.oberon_format.proofs.Common.{add-one, ap, arith, checkpoint_rules, CheckpointFields, count_before, Event, event_start, fields_in, first_broken, length, List, parts_of, refl, sent_below, sym, ℕ, ◌+◌, ◌∙◌, ◌≡◌}
use Rattle.oberon_format.proofs.PartLemmas.{before_next, disk_few, sent_more, sent_none, size_few, start_in_first}
use Rattle.oberon_format.proofs.PartRules.{by_changes, by_fields, next_offset, offset_small, rules_here}
use Rattle.oberon_format.proofs.RuleLemmas.{each_broken, each_more, each_none}
use Rattle.oberon_format.specs.inner.Tested.{encoded_checkpoint_rules}
use Rattle.oberon_format.proofs.parts.checkpoints_fault.Goals as goal

pub returns-in-Some : goal.returns-in-Some
returns-in-Some c =
    let checkpoints = c.args.checkpoints.now in
    let rules = checkpoint_rules (fields_in c.args.version (parts_of c.args.pool.now c.args.inputs.now checkpoints)) in
    let so_far = c.loop-k.invariant in
    let here = rules_here c.args.version c.args.pool.now c.args.inputs.now checkpoints c.loop-k.k c.index-checkpoints-k.result c.len-pages.result c.loop-k.offset c.loop-k.before c.loop-k.sent c.of_parts-fields.result c.table_before-table.result.now.numbers
    c.requires.later c.loop-k-test.true c.index-checkpoints-k.is c.len-pages.ensures.count so_far.offset_is so_far.before_is so_far.sent_is c.table_before-table.ensures c.of_parts-fields.ensures in
    sym (each_broken rules c.loop-k.k (length checkpoints) c.in-Some.fault c.loop-k-test.true so_far.met
    (here.1 ∙ by_fields _ _ _ (sym c.fields_fault.ensures.fault ∙ c.in-Some.is)))

pub returns-in-Some-changes_fault : goal.returns-in-Some-changes_fault
returns-in-Some-changes_fault c =
    let checkpoints = c.args.checkpoints.now in
    let rules = checkpoint_rules (fields_in c.args.version (parts_of c.args.pool.now c.args.inputs.now checkpoints)) in
    let so_far = c.loop-k.invariant in
    let here = rules_here c.args.version c.args.pool.now c.args.inputs.now checkpoints c.loop-k.k c.index-checkpoints-k.result c.len-pages.result c.loop-k.offset c.loop-k.before c.loop-k.sent c.of_parts-fields.result c.table_before-table.result.now.numbers
    c.requires.later c.loop-k-test.true c.index-checkpoints-k.is c.len-pages.ensures.count so_far.offset_is so_far.before_is so_far.sent_is c.table_before-table.ensures c.of_parts-fields.ensures in
    sym (each_broken rules c.loop-k.k (length checkpoints) c.in-Some-changes_fault.fault c.loop-k-test.true so_far.met
    (here.1 ∙ by_changes _ _ c.table_before-table.result.now.numbers _ _ _ _ _ (sym c.fields_fault.ensures.fault ∙ c.in_default.is)
    c.changes_fault.ensures c.in-Some-changes_fault.is refl))

pub loop-k-init : goal.loop-k-init
loop-k-init c =
    let r = parts_of c.args.pool.now c.args.inputs.now c.args.checkpoints.now in
    let at = ap (λ (n : ℕ). event_start n (length c.events.result.now)) c.len-pages.ensures.count
    ∙ ap (λ (es : List Event). event_start (length r.pool) (length es)) c.events.ensures.events in
    record {
      met = each_none (checkpoint_rules (fields_in c.args.version r));
      offset_is = c.event_start-offset.ensures ∙ at ∙ sym (start_in_first c.args.version r);
      before_is = refl;
      sent_is = sym (sent_none (fields_in c.args.version r));
      small = omega arith;
    }

pub changes_fault-requires : goal.changes_fault-requires
changes_fault-requires c =
    let small = offset_small c.args.version (parts_of c.args.pool.now c.args.inputs.now c.args.checkpoints.now) c.loop-k.k c.requires.pages c.requires.events (omega arith) in
    omega (arith, c.loop-k.invariant.offset_is)

pub overflow_add-sent : goal.overflow_add-sent
overflow_add-sent c = omega (arith, c.in_default.ensures.small)

pub overflow_add-offset : goal.overflow_add-offset
overflow_add-offset c =
    let small = offset_small c.args.version (parts_of c.args.pool.now c.args.inputs.now c.args.checkpoints.now) c.loop-k.k c.requires.pages c.requires.events (omega arith) in
    omega (arith, c.loop-k.invariant.offset_is, c.changed_len-offset.ensures, size_few c.args.version c.of_parts-fields.result.changes c.in_default.ensures.few, disk_few c.args.version)

pub returns : goal.returns
returns c =
    let all : c.loop-k.k ≡ length c.args.checkpoints.now = omega arith in let r = parts_of c.args.pool.now c.args.inputs.now c.args.checkpoints.now in
    sym (ap (λ (n : ℕ). first_broken (encoded_checkpoint_rules c.args.version n r)) (sym all) ∙ c.loop-k.invariant.met)

pub loop-k-preserved : goal.loop-k-preserved
loop-k-preserved c =
    let checkpoints = c.args.checkpoints.now in let r = parts_of c.args.pool.now c.args.inputs.now checkpoints in
    let f = fields_in c.args.version r in let k = c.loop-k.k in let so_far = c.loop-k.invariant in
    let here = rules_here c.args.version c.args.pool.now c.args.inputs.now checkpoints k c.index-checkpoints-k.result c.len-pages.result c.loop-k.offset c.loop-k.before c.loop-k.sent c.of_parts-fields.result c.table_before-table.result.now.numbers
    c.requires.later c.loop-k-test.true c.index-checkpoints-k.is c.len-pages.ensures.count so_far.offset_is so_far.before_is so_far.sent_is c.table_before-table.ensures c.of_parts-fields.ensures in
    let fields : c.of_parts-fields.result ≡ f.checkpoint k = here.0 in
    record {
      met = each_more (checkpoint_rules f) k so_far.met (here.1 ∙ by_changes _ _ c.table_before-table.result.now.numbers _ _ _ _ _
          (sym c.fields_fault.ensures.fault ∙ c.in_default.is) c.changes_fault.ensures c.in_default-changes_fault.is refl);
      offset_is = next_offset c.args.version r k c.loop-k.offset c.changed_len-offset.result c.of_parts-fields.result so_far.offset_is fields c.changed_len-offset.ensures;
      before_is = ap (λ (y : CheckpointFields). y.count) fields ∙ sym (ap (count_before f) (add-one k) ∙ before_next f k);
      sent_is = ap (λ (n : ℕ). n + c.of_parts-fields.result.output) so_far.sent_is ∙ ap (λ (y : CheckpointFields). sent_below f k + y.output) fields ∙ sym (sent_more f k);
      small = c.in_default.ensures.small;
    }
