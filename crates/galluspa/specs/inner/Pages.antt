-- The words of a memory, with pages written over some of them.
use Rattle.std.specs.Prelude.{ℕ, ◌*◌, ◌+◌, ◌++◌, List, drop, fold, take}
use Rattle.risc_pages.specs.declared.page.Page.{Page}

-- these words, with those of a page in a slot
abbrev pub with_page : List ℕ → ℕ × Page → List ℕ
with_page words page = take (256 * page.0) words ++ page.1.words ++ drop (256 * page.0 + 256) words

-- these words, with the pages of a list in their slots, one after another
abbrev pub with_pages : List ℕ → List (ℕ × Page) → List ℕ
with_pages words pages = fold with_page words pages
