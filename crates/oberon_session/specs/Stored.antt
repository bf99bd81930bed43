-- How memories are stored as pages of a pool and tables of page ids (this project's own choice).
use Rattle.std.specs.Prelude.{ℕ, ◌≡◌, ◌+◌, ◌==◌, Bool, List, [], ◌∷◌, ◌++◌, filter, length, map, not, slice_set, if◌then◌else◌}
use Rattle.std.specs.List.{fold, list_all}
use Rattle.risc_pages.specs.declared.page.Page.{Page}
use Rattle.risc_pages.specs.Delta.{changed_below}
use Rattle.risc_pages.specs.Pages.{page_at}
use Rattle.oberon_session.specs.declared.storing.StoredPages.{StoredPages}

-- the pages that were stored so far, and the table of the memory that was stored last
pub record Stored : Type 0 where
  pub pool : List (List ℕ)
  pub table : List ℕ

-- a pool and a table, as Rust has them
abbrev pub stored_view : StoredPages → Stored
stored_view l = record { pool = l.pool; table = l.table.numbers }

-- a changed page and its slot, as Rust has them
abbrev pub changed_page_view : ℕ × Page → ℕ × List ℕ
changed_page_view c = (c.0, c.1.words)

-- a pool that has its pages still, and maybe more after them
pub record IsGrown (old new : List (List ℕ)) : Type 0 where
  pub extra : List (List ℕ)
  pub grown : new ≡ old ++ extra

-- whether these words are all zeros
unfoldable pub is_blank : List ℕ → Bool
is_blank words = list_all (λ word. word == 0) words

-- a page is stored in a slot: if it is all zeros the slot gets page id 0, otherwise that of a new page at the end of the pool
unfoldable pub store_page : Stored → ℕ × List ℕ → Stored
store_page stored (slot, words) =
    if is_blank words
    then record stored { table = slice_set stored.table slot 0 }
    else record { pool = stored.pool ++ words ∷ []; table = slice_set stored.table slot (length stored.pool + 1) }

-- pages are stored one after another
abbrev pub store_pages : Stored → List (ℕ × List ℕ) → Stored
store_pages stored pages = fold store_page stored pages

-- the pages in which a memory differs from an earlier one, each with its slot, in the order of the slots
abbrev pub changed_pages : List ℕ → List ℕ → List (ℕ × List ℕ)
changed_pages earlier words = map (λ slot. (slot, page_at words slot)) (changed_below 1024 earlier words)

-- the pages that changed and are not all zeros, in the order of their slots
abbrev pub new_pages : List ℕ → List ℕ → List (List ℕ)
new_pages earlier words = filter (λ page. not (is_blank page)) (map (page_at words) (changed_below 1024 earlier words))

-- a memory is stored after an earlier one: the pages that changed are stored, and other slots keep their page ids
unfoldable pub store : List ℕ → List ℕ → Stored → Stored
store earlier words stored = store_pages stored (changed_pages earlier words)
