use Rattle.oberon_format.proofs.Common.{ap, arith, List, words_bytes, zero_page, ℕ, ◌++◌, ◌∙◌}
use Rattle.oberon_format.proofs.WriteLemmas.{written_next, next_page}
use Rattle.oberon_format.proofs.writing.push_pool.Goals as goal

pub loop-p-preserved : goal.loop-p-preserved
loop-p-preserved c =
    let pool = c.args.pool.now in let p = c.loop-p.p in
    let page = c.page.ensures.words ∙ next_page pool p in
    written_next words_bytes pool p zero_page c.args.out.now.items c.loop-p.out.items _ (omega arith) c.loop-p.invariant
    (c.in_ok-push_words.ensures ∙ ap (λ (l : List ℕ). c.loop-p.out.items ++ words_bytes l) page)
