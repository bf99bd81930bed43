use Rattle.std.proofs.Common.{rules}
use Rattle.recording_texts.proofs.sketch.Sketch.up_to.Goals as goal

pub slice_bounds-result-end : goal.slice_bounds-result-end
slice_bounds-result-end c = search rules
