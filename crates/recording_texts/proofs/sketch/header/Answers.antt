use Rattle.std.proofs.Common.{arith}
use Rattle.recording_texts.proofs.sketch.header.Goals as goal

pub returns : goal.returns
returns c = search arith
