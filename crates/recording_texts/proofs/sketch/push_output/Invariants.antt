use Rattle.std.proofs.Common.{◌≡◌, ◌++◌, take}
use Rattle.recording_texts.specs.Layout.{output_bytes}
use Rattle.recording_texts.proofs.sketch.push_output.Given as goal

abbrev pub invariant-loop-claim : goal.invariant-loop-claim
invariant-loop-claim l = l.file.items ≡ l.fn.file.items ++ output_bytes (take l.claim-index l.claims)
