use Rattle.std.proofs.Common.{ap}
use Rattle.oberon_check.specs.Segment.{SegmentVerdictRecord}
use Rattle.oberon_check.proofs.segment.SegmentVerdict.segment.Goals as goal

pub returns-clause-segment : goal.returns-clause-segment
returns-clause-segment c = ap (λ (f : SegmentVerdictRecord). f.segment) c.self.view_is
