use Rattle.std.proofs.Common.{◌≡◌, take}
use Rattle.recording_texts.specs.Bytes.{set_numbers}
use Rattle.recording_texts.proofs.bytes.set_numbers.Given as goal

abbrev pub invariant-loop-index : goal.invariant-loop-index
invariant-loop-index l = l.words ≡ set_numbers l.initial.words (take l.index-index l.numbers)
