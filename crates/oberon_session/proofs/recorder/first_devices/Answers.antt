use Rattle.std.proofs.Common.{arith}
use Rattle.std.proofs.lemmas.Bool.{false≢true}
use Rattle.oberon_session.proofs.recorder.first_devices.Goals as goal

pub unreachable-requires : goal.unreachable-requires
unreachable-requires c = false≢true (c.in-Err.ensures.range.1 c.requires)

pub returns : goal.returns
returns c = search arith
