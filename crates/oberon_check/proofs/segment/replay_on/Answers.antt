use Rattle.std.proofs.Common.{refl, sym, subst}
use Rattle.oberon_format.specs.Recording.{RecordingParts}
use Rattle.oberon_check.specs.Segment.{IsTrueSegmentVerdict}
use Rattle.oberon_check.proofs.segment.replay_on.Goals as goal

pub invariant_of-result : goal.invariant_of-result
invariant_of-result c =
    subst (λ (r : RecordingParts). IsTrueSegmentVerdict (record { recording = r; segment = c.args.i; part = c.in_ok-part.part })) (sym c.of.ensures)
    c.in_ok-part.ensures.part

pub returns-clause-segment : goal.returns-clause-segment
returns-clause-segment c = refl

pub returns-clause-state : goal.returns-clause-state
returns-clause-state c = c.in_ok-part.ensures.state
