use Rattle.std.proofs.Common.{◌≡◌, ◌-◌, ◌<◌, ℕ, List, length, map, get_or, ap, sym, ◌∙◌, arith}
use Rattle.std.proofs.lemmas.List.{length-map, get_or-map}
use Rattle.risc_pages.proofs.PoolLemmas.{ArePages-map, page_of-shared, page_of-zero}
use Rattle.risc_pages.specs.Pages.{zero_page}
use Rattle.risc_pages.specs.inner.Slots.{words_of}
use Rattle.risc_pages.proofs.pool.Pool.page.Goals as goal

pub returns-then-page_id-eq0-clause-words : goal.returns-then-page_id-eq0-clause-words
returns-then-page_id-eq0-clause-words c = c.self.inside.zeros.blank ∙ sym (page_of-zero _ _ c.if-page_id-eq0.true)

pub returns-then-page_id-eq0-clause-pages : goal.returns-then-page_id-eq0-clause-pages
returns-then-page_id-eq0-clause-pages c = ArePages-map _ _ c.self.view_is

pub returns-else-page_id-eq0-clause-words : goal.returns-else-page_id-eq0-clause-words
returns-else-page_id-eq0-clause-words c =
    let v : map words_of c.self.inside.pages.items ≡ c.args.self.now = c.self.view_is in
    let count : length c.self.inside.pages.items ≡ length c.args.self.now = sym (length-map c.self.inside.pages.items words_of) ∙ ap (λ (x : List (List ℕ)). length x) v in
    let inside : c.args.page_id - 1 < length c.self.inside.pages.items = omega arith in
    ap words_of c.index.ensures
    ∙ sym (get_or-map words_of c.self.inside.pages.items (c.args.page_id - 1) c.index.result.now zero_page inside)
    ∙ ap (λ (x : List (List ℕ)). get_or x (c.args.page_id - 1) zero_page) v
    ∙ sym (page_of-shared _ _ c.if-page_id-eq0.false)

pub returns-else-page_id-eq0-clause-pages : goal.returns-else-page_id-eq0-clause-pages
returns-else-page_id-eq0-clause-pages c = ArePages-map _ _ c.self.view_is
