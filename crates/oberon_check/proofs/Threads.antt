-- Segment verdicts and workers' shares may move to another thread. This is proved field by field, since a `search` through all
-- fields of a share runs out of steps.
use denote.Param.Send.{IsSend, sendable, view_send}
use Rattle.std.proofs.Crossing.{crosses, Vec-send}
use Rattle.oberon_claims.proofs.pass.Pass.TheSendSync.{the_send as pass_send}
use Rattle.oberon_check.specs.contracts.segment.SegmentVerdict as SegmentVerdict
use Rattle.oberon_check.specs.contracts.segment.SegmentVerdict.TheInside as verdict
use Rattle.oberon_check.proofs.part.Part.TheSendSync.{the_send as part_send}
use Rattle.oberon_check.specs.contracts.worker.Done as Done
use Rattle.oberon_check.specs.contracts.worker.Done.TheInside as done

verdict_fields : IsSend verdict.the_row
verdict_fields = let p = part_send in search (crosses, sendable) depth 20

pub verdict_send : IsSend SegmentVerdict.the_row
verdict_send = view_send _ _ _ _ _ verdict_fields

done_fields : IsSend done.the_row
done_fields = let p = pass_send in let v = Vec-send _ verdict_send in search (crosses, sendable) depth 20

pub done_send : IsSend Done.the_row
done_send = view_send _ _ _ _ _ done_fields
