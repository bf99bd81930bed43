use Rattle.std.proofs.Common.{List, ℕ, sym, ◌∙◌, replicate}
use Rattle.recording_texts.proofs.Encoded.{later_after, table_of_one_more}
use Rattle.recording_texts.proofs.sketch.push_later_claims.Goals as goal

pub loop-k-preserved : goal.loop-k-preserved
loop-k-preserved c =
    let zeros : List ℕ = replicate 1024 0 in record {
      file = later_after c.args.version c.args.file.now.items c.loop-k.file.items c.in_ok-bytes.bytes.items _ zeros c.loop-k.before c.args.claims.now
          c.loop-k.k _ c.loop-k-test.true c.in_ok-append.ensures.items c.loop-k.invariant.file c.loop-k.invariant.before c.in_ok-bytes.ensures;
      before = c.page_ids-before.ensures ∙ sym (table_of_one_more zeros c.args.claims.now c.loop-k.k _ c.loop-k-test.true);
    }
