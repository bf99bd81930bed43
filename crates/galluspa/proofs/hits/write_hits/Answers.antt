use Rattle.std.proofs.Common.{◌∙◌, arith, length, length-set}
use Rattle.galluspa.proofs.HitLemmas.{after-all, after-more, written-all, written-more}
use Rattle.galluspa.proofs.hits.write_hits.Goals as goal

pub loop-index-preserved : goal.loop-index-preserved
loop-index-preserved c =
    let hits = c.args.hits.now in
    let out = c.loop-index.out in
    let i = c.loop-index.invariant in
    let inside = c.loop-index-test.true in
    record {
      count = length-set out c.loop-index.index c.raw_hit.result ∙ i.count;
      each = written-more hits out c.loop-index.index c.raw_hit.result _ inside (omega (arith, inside, c.requires, i.count)) c.raw_hit.ensures i.each;
      rest = after-more c.args.out.now out (length hits) c.loop-index.index c.raw_hit.result inside i.rest;
    }

pub returns-clause-front : goal.returns-clause-front
returns-clause-front c =
    let i = c.loop-index.invariant in
    written-all c.args.hits.now c.loop-index.out c.loop-index.index (record { count = 0; condition = 0 }) c.loop-index-test.false (omega (arith, c.requires, i.count)) i.each

pub returns-clause-rest : goal.returns-clause-rest
returns-clause-rest c = after-all c.args.out.now c.loop-index.out (length c.args.hits.now) c.loop-index.invariant.count c.loop-index.invariant.rest
