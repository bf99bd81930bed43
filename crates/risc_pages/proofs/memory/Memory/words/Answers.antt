use Rattle.std.proofs.Common.{◌<◌, ◌≤◌, ◌++◌, ◌∷◌, [], List, ℕ, length, ap, sym, ◌∙◌, arith, slice_range}
use Rattle.risc_pages.proofs.Paging.{slice_range_more}
use Rattle.risc_pages.proofs.memory.Memory.words.Goals as goal

pub loop-number-preserved : goal.loop-number-preserved
loop-number-preserved c =
    let inside : c.loop-number.number < length c.args.self.now.words = let m = c.read.ensures.memory.words in omega arith in
    let low : c.args.from ≤ c.loop-number.number = omega arith in
    let next = slice_range_more c.args.self.now.words c.args.from c.loop-number.number low inside in
    c.in_ok-push.ensures.items
    ∙ ap (λ (z : List ℕ). z ++ c.read.result ∷ []) c.loop-number.invariant
    ∙ ap (λ (x : ℕ). slice_range c.args.self.now.words c.args.from c.loop-number.number ++ x ∷ []) c.read.ensures.word
    ∙ sym next
