use Rattle.std.proofs.Common.{◌∙◌, arith, length, length-set}
use Rattle.galluspa.proofs.HitLemmas.{after-all, after-more}
use Rattle.galluspa.proofs.RecordedLemmas.{raw-more}
use Rattle.galluspa.proofs.past_records.write_records.Goals as goal

pub loop-index-preserved : goal.loop-index-preserved
loop-index-preserved c =
    let records = c.args.records.now in
    let out = c.loop-index.out in
    let i = c.loop-index.invariant in
    let inside = c.loop-index-test.true in
    record {
      count = length-set out c.loop-index.index c.raw_of.result ∙ i.count;
      each = raw-more records out c.loop-index.index c.raw_of.result c.index-records-index.result inside (omega (arith, inside, c.requires.room, i.count))
          c.index-records-index.is c.raw_of.ensures i.each;
      rest = after-more c.args.out.now out (length records) c.loop-index.index c.raw_of.result inside i.rest;
    }

pub returns-clause-front : goal.returns-clause-front
returns-clause-front c = λ i d e lt. c.loop-index.invariant.each i d e (omega (arith, lt, c.loop-index-test.false))

pub returns-clause-rest : goal.returns-clause-rest
returns-clause-rest c =
    after-all c.args.out.now c.loop-index.out (length c.args.records.now) c.loop-index.invariant.count c.loop-index.invariant.rest
