use Rattle.std.proofs.Common.{◌≡◌, ℕ, ◌<◌, length, get_or}
use Rattle.oberon_check.specs.declared.collector.TheConstants.{MAX_SEGMENTS}
use Rattle.oberon_check.specs.Segment.{SegmentVerdictRecord, IsTrueSegmentVerdict}
use Rattle.oberon_check.specs.inner.Tally.{IsTally}
use Rattle.oberon_check.proofs.collector.tally_of.Given as goal

abbrev pub invariant-loop-verdict : goal.invariant-loop-verdict
invariant-loop-verdict l = record {
  room : length l.seen ≡ MAX_SEGMENTS;
  tally : IsTally l.verdicts l.verdict-index l.seen l.least;
  truth : (k : ℕ) (d : SegmentVerdictRecord) → k < l.verdict-index → IsTrueSegmentVerdict (get_or l.verdicts k d);
}
