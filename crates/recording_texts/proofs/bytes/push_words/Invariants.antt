use Rattle.std.proofs.Common.{◌≡◌, ◌++◌, take}
use Rattle.recording_texts.specs.Bytes.{words_bytes}
use Rattle.recording_texts.proofs.bytes.push_words.Given as goal

abbrev pub invariant-loop-word : goal.invariant-loop-word
invariant-loop-word l = l.file.items ≡ l.fn.file.items ++ words_bytes (take l.word-index l.words)
