use Rattle.oberon_format.proofs.Common.{[], add-one, ap, arith, checkpoint_parts, CheckpointParts, checkpoints, checkpoints_at, decoded, fields_of, length-append, List, map-append, map-range_with_len_more, prior_page_id, refl, sym, ℕ, ◌++◌, ◌<◌, ◌∙◌, ◌∷◌, ◌≡◌}
use Rattle.oberon_format.proofs.Decode.{table_made}
use Rattle.oberon_format.proofs.RuleLemmas.{checkpoint_holds, output_below_none, output_below_more}
use Rattle.oberon_format.proofs.Room.{checkpoint_there, offset_next}
use Rattle.oberon_format.proofs.PartLemmas.{prior_more}
use Rattle.oberon_format.proofs.ReadRules.{prior_none}
use Rattle.oberon_format.proofs.reading.checkpoints_of.Goals as goal

pub loop-k-init : goal.loop-k-init
loop-k-init c =
    let bytes = c.args.bytes.now in
    rw (c.in_ok-list.ensures.items, c.zeros-table.ensures) (record {
      len = refl;
      offset_is = c.first_checkpoint-offset.ensures;
      table_is = prior_none (fields_of bytes);
      from_is = omega (arith, output_below_none bytes);
      decoded = refl;
    })

pub checkpoint_of-requires-clause-ranges : goal.checkpoint_of-requires-clause-ranges
checkpoint_of-requires-clause-ranges c = rw c.loop-k.invariant.offset_is (checkpoint_holds c.args.bytes.now c.loop-k.k c.requires.meets (omega arith)).ranges

pub checkpoint_of-requires-clause-keys : goal.checkpoint_of-requires-clause-keys
checkpoint_of-requires-clause-keys c = rw c.loop-k.invariant.offset_is (checkpoint_holds c.args.bytes.now c.loop-k.k c.requires.meets (omega arith)).keys

pub checkpoint_of-requires-clause-whole : goal.checkpoint_of-requires-clause-whole
checkpoint_of-requires-clause-whole c = rw c.loop-k.invariant.offset_is (checkpoint_there c.args.bytes.now c.loop-k.k c.requires.meets (omega arith))

pub checkpoint_len-requires-clause-changes : goal.checkpoint_len-requires-clause-changes
checkpoint_len-requires-clause-changes c =
    rw (c.word_since_2.ensures, c.loop-k.invariant.offset_is) (checkpoint_holds c.args.bytes.now c.loop-k.k c.requires.meets (omega arith)).changes

pub loop-k-preserved : goal.loop-k-preserved
loop-k-preserved c =
    let bytes = c.args.bytes.now in let k = c.loop-k.k in let lt : k < checkpoints bytes = omega arith in
    let at = c.loop-k.invariant.offset_is in let checkpoint = c.in_ok-checkpoint_of.field-0 in
    let own = rw at at c.u32_at.ensures in let more = output_below_more bytes k in let items = c.loop-k.list.items in
    let table = c.advance_table.new.table in
    let made = table_made bytes table.numbers k table.count c.advance_table.ensures in
    let part : checkpoint_parts checkpoint ≡ decoded bytes k = c.in_ok-checkpoint_of.ensures ∙ rw (at, c.loop-k.invariant.from_is, made) in
    rw c.in_ok-push.ensures.items (record {
      len = omega (arith, length-append items (checkpoint ∷ []));
      offset_is = offset_next bytes k c.loop-k.offset c.word_since_2.result c.checkpoint_len.result at c.word_since_2.ensures c.checkpoint_len.ensures;
      table_is = λ p less. c.advance_table.ensures p less ∙ sym (ap (λ (n : ℕ). prior_page_id (fields_of bytes) n p) (add-one k) ∙ prior_more (fields_of bytes) k p);
      from_is = omega arith;
      decoded = map-append checkpoint_parts items (checkpoint ∷ [])
          ∙ ap (λ (l : List CheckpointParts). l ++ checkpoint_parts checkpoint ∷ []) c.loop-k.invariant.decoded
          ∙ ap (λ (x : CheckpointParts). checkpoints_at bytes k ++ x ∷ []) part ∙ sym (map-range_with_len_more (decoded bytes) 0 k k (omega arith));
    })
