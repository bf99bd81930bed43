use Rattle.oberon_format.proofs.Common.{add-one, ap, arith, change_count, checkpoint_of, checkpoint_rules, CheckpointFields, checkpoints, eqb-true, fields_of, first_broken, FIRST_VERSION, HasPageIds, length, List, long_at, MAX_OUTPUT, None, page_id_before, SENT_AT, Some, start, subst, suc, sym, true, version, word_at, ℕ, ◌+◌, ◌<◌, ◌==◌, ◌∙◌, ◌≡◌, ◌≤◌, false}
use Rattle.oberon_format.proofs.Room.{start_next, size_first, whole_room, offset_next}
use Rattle.oberon_format.proofs.RuleLemmas.{each_more, each_broken, output_below, output_below_more, count_before_more}
use Rattle.oberon_format.proofs.rules.checkpoints_end.Goals.{then-is_first, else-is_first}
use Rattle.oberon_format.proofs.rules.checkpoints_end.Goals as goal

pub returns-in-Err : goal.returns-in-Err
returns-in-Err c =
    let bytes = c.args.bytes.now in let k = c.loop-k.k in
    let rules = checkpoint_rules (fields_of bytes) in
    let one : first_broken (rules k) ≡ Some c.in-Err.fault = elim c.if-is_first.branch [
      | then-is_first w ↦ rw (← w.tested-is, c.in-Err.is) at w.whole_checkpoint-tested.ensures
      | else-is_first w ↦ rw (← w.tested-is, c.in-Err.is) at w.changed_checkpoint-tested.ensures
    ] in
    each_broken rules k (checkpoints bytes) c.in-Err.fault (omega arith) c.loop-k.invariant.met one

-- what either test says of a checkpoint
record AreTested (bytes : List ℕ) (k offset sent : ℕ) (fields : CheckpointFields) (table : List ℕ) : Type 0 where
  read : fields ≡ checkpoint_of bytes offset
  small : sent + fields.output ≤ MAX_OUTPUT
  there : start bytes (suc k) ≤ length bytes
  numbers : (version bytes == FIRST_VERSION) ≡ false → HasPageIds table (page_id_before bytes (suc k))
  met : first_broken (checkpoint_rules (fields_of bytes) k) ≡ None

pub loop-k-preserved : goal.loop-k-preserved
loop-k-preserved c =
    let bytes = c.args.bytes.now in let k = c.loop-k.k in let offset = c.loop-k.offset in
    let at = c.loop-k.invariant.offset_is in let fields = c.in-Ok.fields in let lt : k < checkpoints bytes = omega arith in
    let tested : AreTested bytes k offset c.loop-k.sent fields c.if-is_first.table.numbers = elim c.if-is_first.branch [
      | then-is_first w ↦
          let facts = rw (← w.tested-is, c.in-Ok.is) at w.whole_checkpoint-tested.ensures in
          let test : (version bytes == FIRST_VERSION) ≡ true = sym c.is_first_version-is_first.ensures ∙ w.if-is_first.true in
          let is = eqb-true _ _ test in let room = whole_room bytes k c.requires lt is in let next = start_next bytes k in
          let size = size_first (version bytes) (change_count bytes (start bytes k)) is in
          record { read = facts.0; small = facts.1; there = omega arith; numbers = λ later. absurd cc; met = facts.2 }
      | else-is_first w ↦
          let facts = rw (← w.tested-is, c.in-Ok.is) at w.changed_checkpoint-tested.ensures in
          record { read = facts.0; small = facts.1; there = facts.2; numbers = λ is. rw w.table-is facts.4; met = facts.5 }
    ] in
    let many : fields.changes ≡ change_count bytes offset = ap (λ (x : CheckpointFields). x.changes) tested.read in
    let next = offset_next bytes k offset fields.changes c.checkpoint_len-offset.result at many c.checkpoint_len-offset.ensures in
    record {
      met = each_more (checkpoint_rules (fields_of bytes)) k c.loop-k.invariant.met tested.met;
      offset_is = next;
      room = omega (arith, ap (start bytes) (add-one k), tested.there);
      before_is = ap (λ (x : CheckpointFields). x.count) tested.read ∙ ap (long_at bytes) at ∙ sym (count_before_more bytes k);
      sent_is = ap (λ (n : ℕ). n + fields.output) c.loop-k.invariant.sent_is ∙ ap (λ (x : CheckpointFields). output_below bytes k + x.output) tested.read
          ∙ ap (λ (p : ℕ). output_below bytes k + word_at bytes (p + SENT_AT)) at ∙ sym (output_below_more bytes k);
      small = tested.small;
      table = λ is. subst (λ (n : ℕ). HasPageIds c.if-is_first.table.numbers (page_id_before bytes n)) (sym (add-one k)) (tested.numbers is);
    }
