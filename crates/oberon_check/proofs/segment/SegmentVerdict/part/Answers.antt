use Rattle.std.proofs.Common.{ap}
use Rattle.oberon_check.specs.Segment.{SegmentVerdictRecord}
use Rattle.oberon_check.proofs.segment.SegmentVerdict.part.Goals as goal

pub returns-clause-part : goal.returns-clause-part
returns-clause-part c = ap (λ (f : SegmentVerdictRecord). f.part) c.self.view_is
