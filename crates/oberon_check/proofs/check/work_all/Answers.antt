use denote.Param.Send.{sendable}
use Rattle.std.proofs.Crossing.{crosses}
use Rattle.oberon_check.proofs.Threads.{done_send}
use Rattle.oberon_check.proofs.check.work_all.Goals as goal

pub map_vec-requires-send-X : goal.map_vec-requires-send-X
map_vec-requires-send-X g c = let d = done_send in search (crosses, sendable) depth 20
