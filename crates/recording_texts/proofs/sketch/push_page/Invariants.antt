use Rattle.std.proofs.Common.{◌≡◌, ◌++◌}
use Rattle.recording_texts.specs.Bytes.{padded, words_bytes}
use Rattle.recording_texts.proofs.sketch.push_page.Given as goal

abbrev pub invariant-loop-i : goal.invariant-loop-i
invariant-loop-i l = l.file.items ≡ l.fn.file.items ++ words_bytes (padded l.words l.i)
