use Rattle.std.proofs.Common.{◌∙◌, sym, arith}
use Rattle.std.proofs.lemmas.List.{same_lists}
use Rattle.galluspa.proofs.words.copy_words.Goals as goal

pub returns : goal.returns
returns c =
    same_lists c.loop-number.words c.args.memory.now.words (c.loop-number.invariant.len ∙ sym c.read-first.ensures.memory.words)
    (λ k d h. c.loop-number.invariant.each k d (omega (arith, c.loop-number.invariant.len)))
