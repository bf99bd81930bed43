use Rattle.std.proofs.Common.{arith}
use Rattle.std.proofs.lemmas.List.FromFn.{fill_by_all}
use Rattle.oberon_session.specs.Digits.{word_of_bytes, words_of_bytes}
use Rattle.oberon_session.proofs.digits.page_of.Goals as goal

pub returns : goal.returns
unfolding words_of_bytes
returns c =
    fill_by_all (word_of_bytes c.args.bytes.now) c.loop-i.words 256 0 c.loop-i.invariant.0
    (λ k lt. c.loop-i.invariant.1 k (omega arith))
