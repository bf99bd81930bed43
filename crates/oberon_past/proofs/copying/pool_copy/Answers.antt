use Rattle.std.proofs.Common.{◌≡◌, ◌∙◌, ◌+◌, ◌-◌, ◌<◌, ℕ, List, [], ◌∷◌, ◌++◌, ap, ap₂, arith, get_or, length, sym}
use Rattle.std.proofs.lemmas.List.{take_more}
use Rattle.risc_pages.proofs.PoolLemmas.{page_of-shared}
use Rattle.risc_pages.specs.Pages.{zero_page}
use Rattle.oberon_past.proofs.copying.pool_copy.Goals as goal

pub loop-page-preserved : goal.loop-page-preserved
loop-page-preserved c =
    let pool : List (List ℕ) = c.args.pool.now in
    let page : ℕ = c.loop-page.page in
    let inside : page < length pool = omega (arith, c.len-page-end.ensures.count, c.loop-page-test.true) in
    let same : page + 1 - 1 ≡ page = omega arith in
    let words = c.page.ensures.words ∙ page_of-shared pool (page + 1) (λ none. absurd (omega arith)) ∙ ap (λ (k : ℕ). get_or pool k zero_page) same in
    c.in_ok-push.ensures.ok ∙ ap₂ (λ (before : List (List ℕ)) (w : List ℕ). before ++ w ∷ []) c.loop-page.invariant words
    ∙ sym (take_more pool page zero_page inside)
