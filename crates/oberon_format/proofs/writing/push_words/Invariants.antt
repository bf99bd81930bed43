use Rattle.oberon_format.proofs.Common.{take, words_bytes, ◌++◌, ◌≡◌}
use Rattle.oberon_format.proofs.writing.push_words.Given as goal

abbrev pub invariant-loop-number : goal.invariant-loop-number
invariant-loop-number l = l.out.items ≡ l.fn.out.items ++ words_bytes (take l.number-index l.numbers)
