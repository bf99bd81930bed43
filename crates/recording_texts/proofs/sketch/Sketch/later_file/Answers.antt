use Rattle.std.proofs.Common.{arith}
use Rattle.recording_texts.specs.Layout.{later_file}
use Rattle.recording_texts.proofs.sketch.Sketch.later_file.Goals as goal

pub returns : goal.returns
unfolding later_file
returns c = search arith
