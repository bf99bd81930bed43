-- The pages of a pool, and the content of a table.
use Rattle.std.proofs.Common.{◌≡◌, ℕ, zero, suc, ◌*◌, ◌-◌, ◌<◌, ◌≤◌, ◌^◌, List, length, get_or, replicate, map, refl, sym, subst, arith, true, false, inl, inr, ◌⊎◌, nat_eq, lit<}
use Rattle.std.proofs.lemmas.Bool.{eq-eqb}
use Rattle.std.proofs.lemmas.Bool.Decides.{eqb_tells}
use Rattle.std.proofs.lemmas.List.Elements.{All-map, All-replicate, All-same}
use Rattle.risc_pages.proofs.Paging.{take-drop-pages}
use Rattle.std.specs.Prelude.{slice_index}
use Rattle.risc_pages.specs.Tables.{table_words, zero_numbers, IsNamed}
use Rattle.risc_pages.specs.declared.page.Page.{Page}
use Rattle.risc_pages.specs.Pages.{ArePages, IsPage, page_at, page_of, zero_page}
use Rattle.risc_pages.specs.inner.Slots.{words_of}

pub IsPage-zero_page : IsPage zero_page
unfolding zero_page
IsPage-zero_page = record { whole = refl; fit = All-replicate (λ w. w < 2 ^ 32) 256 0 (lit< tt) }

-- the words of a page are a page
pub IsPage-words_of : (page : Page) → IsPage (words_of page)
IsPage-words_of page = record { whole = page.whole; fit = page.fit }

-- so are those of all pages of a pool
pub ArePages-map : (pages : List Page) (pool : List (List ℕ)) → map words_of pages ≡ pool → ArePages pool
ArePages-map pages pool view = All-same IsPage pool (map words_of pages) (sym view) (All-map IsPage words_of pages (λ k d h. IsPage-words_of (get_or pages k d)))

not_equal_by : (a b : ℕ) → (a ≡ b → ⊥) → ((nat_eq a b ≡ true) × (a ≡ b)) ⊎ ((nat_eq a b ≡ false) × (a ≡ b → ⊥)) → nat_eq a b ≡ false
not_equal_by a b ne (inl h) = absurd (ne h.1)
not_equal_by a b ne (inr h) = h.0

-- page id 0 is the page of zeros
pub page_of-zero : (pool : List (List ℕ)) (n : ℕ) → n ≡ 0 → page_of pool n ≡ zero_page
unfolding page_of
page_of-zero pool n e = rw (eq-eqb n 0 e) refl

-- another page id is that of the page before it in the pool
pub page_of-shared : (pool : List (List ℕ)) (n : ℕ) → (n ≡ 0 → ⊥) → page_of pool n ≡ get_or pool (n - 1) zero_page
unfolding page_of
page_of-shared pool n ne = rw (not_equal_by n 0 ne (eqb_tells n 0)) refl

IsPage-page_of_by : (pool : List (List ℕ)) (n : ℕ) → ArePages pool → n ≤ length pool → ((nat_eq n 0 ≡ true) × (n ≡ 0)) ⊎ ((nat_eq n 0 ≡ false) × (n ≡ 0 → ⊥)) → IsPage (page_of pool n)
IsPage-page_of_by pool n all h (inl z) = subst IsPage (sym (page_of-zero pool n z.1)) IsPage-zero_page
IsPage-page_of_by pool n all h (inr s) =
    let ne : n ≡ 0 → ⊥ = s.1 in
    subst IsPage (sym (page_of-shared pool n s.1)) (all (n - 1) zero_page (omega arith))

-- each page id that a table names is that of a page
pub IsPage-page_of : (pool : List (List ℕ)) (n : ℕ) → ArePages pool → n ≤ length pool → IsPage (page_of pool n)
IsPage-page_of pool n all h = IsPage-page_of_by pool n all h (eqb_tells n 0)

-- a list of one value repeated has it at each index, and beyond its end if that value is the default
pub replicate_anywhere : {X : Type 0} (n : ℕ) (x : X) (i : ℕ) → get_or (replicate n x) i x ≡ x
replicate_anywhere zero x i = refl
replicate_anywhere (suc n) x zero = refl
replicate_anywhere (suc n) x (suc i) = replicate_anywhere n x i

-- the first table has page id 0 in each slot
pub zero_number : (p : ℕ) → slice_index zero_numbers p ≡ 0
unfolding zero_numbers
zero_number p = replicate_anywhere 1024 0 p

-- page p of the content is the page that the table names in slot p
pub page_at-table_words : (pool : List (List ℕ)) (numbers : List ℕ) (p e : ℕ) → ArePages pool → IsNamed pool numbers → p < length numbers → page_at (table_words pool numbers) p ≡ page_of pool (get_or numbers p e)
unfolding page_at
page_at-table_words pool numbers p e all named h =
    take-drop-pages (page_of pool) 256 numbers p (256 * p) e (λ k d l. (IsPage-page_of pool (get_or numbers k d) all (named k d l)).whole) h refl
