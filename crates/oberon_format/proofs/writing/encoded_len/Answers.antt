use Rattle.oberon_format.proofs.Common.{add-one, ap, arith, changes, changes_in, checkpoint_at, checkpoint_len, CheckpointParts, length, List, start_in, sym, table_before, ℕ, ◌+◌, ◌∙◌, ◌≡◌}
use Rattle.oberon_format.proofs.PartLemmas.{start_in_next}
use Rattle.oberon_format.proofs.writing.encoded_len.Goals as goal

pub loop-k-preserved : goal.loop-k-preserved
loop-k-preserved c =
    let r = c.args.r.now in let k = c.loop-k.k in
    let before = c.table_before-before.ensures ∙ ap (λ (cs : List CheckpointParts). table_before cs k) c.checkpoints.ensures.checkpoints in
    let count : c.change_count.result ≡ length (changes (table_before r.checkpoints k) (checkpoint_at r k).table) = c.change_count.ensures
    ∙ ap (λ (t : List ℕ). length (changes t c.checkpoint.result.now.table.numbers)) before
    ∙ ap (λ (x : CheckpointParts). length (changes (table_before r.checkpoints k) x.table)) c.checkpoint.ensures.checkpoint in
    let v = c.args.version in
    let own : changes_in v (table_before r.checkpoints k) (checkpoint_at r k) ≡ c.change_count.result = rw c.requires (sym count) in
    omega (arith, ap (start_in v r) (add-one k) ∙ start_in_next v r k ∙ ap (λ (n : ℕ). start_in v r k + checkpoint_len v n) own, c.loop-k.invariant, c.changed_len-len.ensures)
