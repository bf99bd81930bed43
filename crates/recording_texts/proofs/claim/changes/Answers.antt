use Rattle.std.proofs.Common.{◌++◌, ◌∙◌, List, ℕ, ap, sym, arith}
use Rattle.recording_texts.specs.Claims.{change_at}
use Rattle.recording_texts.proofs.Lists.{no_change, one_change_more}
use Rattle.recording_texts.proofs.claim.changes.Goals as goal

pub loop-slot-init : goal.loop-slot-init
loop-slot-init c = record {
  changes = c.new-changes.ensures.items ∙ sym (no_change c.args.before.now c.args.after.now);
  few = omega (arith, c.new-changes.ensures.len);
}

pub loop-slot-preserved : goal.loop-slot-preserved
loop-slot-preserved c =
    let before : List ℕ = c.args.before.now in
    let after : List ℕ = c.args.after.now in
    let slot = c.loop-slot.slot in
    let len = c.in_ok-push_change.ensures.len in
    let few = c.loop-slot.invariant.few in record {
      changes = c.in_ok-push_change.ensures.change ∙ ap (λ (bytes : List ℕ). bytes ++ change_at before after slot) c.loop-slot.invariant.changes
          ∙ sym (one_change_more before after slot);
      few = omega arith;
    }
