use Rattle.std.proofs.Common.{arith}
use Rattle.recording_texts.specs.Layout.{first_file}
use Rattle.recording_texts.proofs.sketch.Sketch.first_file.Goals as goal

pub returns : goal.returns
unfolding first_file
returns c = search arith
