use Rattle.oberon_format.proofs.Common.{refl, add-one, ap, arith, changes, changes_in, checkpoint_at, checkpoint_len, checkpoint_parts, CheckpointParts, get_or, length, List, parts_of, start_in, sym, table_before, ℕ, ◌+◌, ◌<◌, ◌∙◌, ◌≡◌}
use Rattle.oberon_format.proofs.ChangeLemmas.{changes_few}
use Rattle.oberon_format.proofs.CheckpointLemmas.{checkpoint_here}
use Rattle.oberon_format.proofs.PartLemmas.{start_in_next}
use Rattle.oberon_format.proofs.parts.checkpoint_start.Goals as goal

pub changed_len-offset-requires : goal.changed_len-offset-requires
changed_len-offset-requires c =
    record {
      version = c.requires.later;
      changes = omega (
        arith,
        c.change_count.ensures,
        changes_few c.table_before-table.result.now.numbers (get_or c.args.checkpoints.now c.loop-i.i c.index-checkpoints-i.result).table.numbers,
      );
    }

pub loop-i-preserved : goal.loop-i-preserved
loop-i-preserved c =
    let checkpoints = c.args.checkpoints.now in let r = parts_of c.args.pool.now c.args.inputs.now checkpoints in
    let i = c.loop-i.i in let x = get_or checkpoints i c.index-checkpoints-i.result in
    let inside : i < length checkpoints = omega arith in
    let here : checkpoint_at r i ≡ checkpoint_parts x = checkpoint_here checkpoints i c.index-checkpoints-i.result inside in
    let later = c.requires.later in
    let many : changes_in c.args.version (table_before r.checkpoints i) (checkpoint_at r i) ≡ length (changes (table_before r.checkpoints i) (checkpoint_at r i).table) = rw later refl in
    let count : c.change_count.result ≡ changes_in c.args.version (table_before r.checkpoints i) (checkpoint_at r i) =
    c.change_count.ensures ∙ ap (λ (t : List ℕ). length (changes t x.table.numbers)) c.table_before-table.ensures
    ∙ ap (λ (y : CheckpointParts). length (changes (table_before r.checkpoints i) y.table)) (sym here) ∙ sym many in
    ap (λ (n : ℕ). n + c.changed_len-offset.result) c.loop-i.invariant
    ∙ ap (λ (n : ℕ). start_in c.args.version r i + n) (c.changed_len-offset.ensures ∙ ap (checkpoint_len c.args.version) count)
    ∙ sym (start_in_next c.args.version r i) ∙ ap (start_in c.args.version r) (sym (add-one i))
