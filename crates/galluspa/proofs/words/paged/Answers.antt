use Rattle.std.proofs.Common.{arith}
use Rattle.std.proofs.lemmas.Grind.{common_steps}
use Rattle.galluspa.proofs.WordLemmas.{words_whole}
use Rattle.galluspa.proofs.words.paged.Goals as goal

pub returns-clause-words : goal.returns-clause-words
returns-clause-words c =
    let l = c.loop-slot in
    words_whole c.args.words.now l.pool l.table.numbers c.requires c.len-pages.ensures.pages (omega (arith, l.invariant.pages)) l.table.count l.invariant.each (λ k d h. l.invariant.number k d (omega arith))

pub loop-slot-preserved : goal.loop-slot-preserved
loop-slot-preserved c = grind (arith, common_steps)
