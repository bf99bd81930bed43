use Rattle.std.proofs.Common.{◌<◌, ◌+◌, ℕ, length, false, sym, ◌∙◌, subst, arith}
use Rattle.std.proofs.lemmas.List.{length-replicate, length-set}
use Rattle.oberon_check.specs.declared.collector.TheConstants.{MAX_SEGMENTS}
use Rattle.oberon_check.specs.Segment.{SegmentVerdictRecord}
use Rattle.oberon_check.specs.inner.Tally.{IsTally}
use Rattle.oberon_check.proofs.Tallying.{tally_none, tally_more, segment_here, part_here, reported_more}
use Rattle.oberon_check.proofs.collector.tally_of.Goals as goal

pub loop-verdict-init : goal.loop-verdict-init
loop-verdict-init c = record {
  room = length-replicate MAX_SEGMENTS false;
  tally = tally_none c.args.verdicts.now MAX_SEGMENTS;
  truth = λ k d below. absurd (omega arith);
}

pub loop-verdict-preserved : goal.loop-verdict-preserved
loop-verdict-preserved c =
    let i = c.loop-verdict.invariant in
    let vs = c.args.verdicts.now in
    let n : ℕ = c.loop-verdict.verdict-index in
    let v : SegmentVerdictRecord = c.verdict-item.result in
    let inside : n < length vs = omega arith in
    let truth = c.segment-segment.ensures.truth in
    let few = truth.lawful.few in
    let small = truth.inside in
    let more = tally_more vs n c.loop-verdict.seen c.loop-verdict.least c.segment-segment.result c.part.result i.tally
    (segment_here vs n v inside c.verdict-item.is ∙ sym c.segment-segment.ensures.segment)
    (part_here vs n v inside c.verdict-item.is ∙ sym c.part.ensures.part) i.room (omega arith) c.if-seen-segment.false in record {
      room = length-set c.loop-verdict.seen c.segment-segment.result _ ∙ i.room;
      tally = subst (IsTally vs (n + 1) _) (sym c.lesser-least.ensures) more;
      truth = reported_more vs n v i.truth inside c.verdict-item.is truth;
    }

pub returns-clause-ok : goal.returns-clause-ok
returns-clause-ok c = search arith

pub returns-clause-truth : goal.returns-clause-truth
returns-clause-truth c = search arith

pub returns-clause-double : goal.returns-clause-double
returns-clause-double c = search arith
