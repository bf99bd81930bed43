-- Pages and tables with one more page.
use Rattle.std.proofs.Common.{◌≡◌, ℕ, suc, ◌+◌, ◌<◌, ◌≤◌, Bool, true, false, List, [], ◌∷◌, ap, arith, cond, length, map, refl, sym, ◌∙◌}
use Rattle.std.proofs.lemmas.List.{length-map}
use Rattle.std.proofs.lemmas.List.Elements.{All-map}
use Rattle.std.proofs.lemmas.List.FromFn.{length-range_with_len}
use Rattle.std.specs.List.{All, filter, range_with_len}
use Rattle.std.specs.Prelude.{slice_index, slice_set}
use Rattle.risc_pages.specs.declared.page.Page.{Page}
use Rattle.risc_pages.specs.Delta.{IsDelta, changed_below, differs_at, changed_slots}
use Rattle.risc_pages.proofs.DeltaLemmas.{AreDifferences-changed_below}
use Rattle.oberon_session.proofs.Mapped.{unmapped}
use Rattle.risc_pages.specs.Pages.{page_at}
use Rattle.risc_pages.specs.Tables.{zero_numbers}
use Rattle.oberon_session.specs.Digits.{PlacedWords}
use Rattle.oberon_session.specs.Stored.{changed_pages, changed_page_view}
use Rattle.oberon_session.specs.Recorded.{numbered}
use Rattle.oberon_session.specs.SessionParts.{slots_in}

pub numbered-suc : (pages : List PlacedWords) (n : ℕ) → numbered pages (suc n) ≡ slice_set (numbered pages n) (slice_index (slots_in pages) n) (suc n)
unfolding numbered
numbered-suc pages n = refl

pub numbered-none : (pages : List PlacedWords) → numbered pages 0 ≡ zero_numbers
unfolding numbered
numbered-none pages = refl

pub numbered-more : (pages : List PlacedWords) (n slot : ℕ) → slot ≡ slice_index (slots_in pages) n
    → slice_set (numbered pages n) slot (n + 1) ≡ numbered pages (n + 1)
numbered-more pages n slot at =
    let next : n + 1 ≡ suc n = omega arith in
    rw (next, at) (sym (numbered-suc pages n))

-- a slot with its page
abbrev pub with-page : List ℕ → ℕ → ℕ × List ℕ
with-page words slot = (slot, page_at words slot)

module _ (words : List ℕ) where
  pages-with : (changed : List (ℕ × Page)) → All (λ (c : ℕ × Page). c.1.words ≡ page_at words c.0) changed
      → map changed_page_view changed ≡ map (with-page words) (changed_slots changed)
  pages-with [] all = refl
  pages-with (c ∷ changed) all =
      let first : c.1.words ≡ page_at words c.0 = all 0 c (omega arith) in
      let rest = pages-with changed (λ k d lt. all (suc k) d (omega arith)) in
      rw (first, rest) refl

-- the changes of a memory are the pages that changed
pub changes : (base words : List ℕ) (changed : List (ℕ × Page)) → IsDelta base words changed → map changed_page_view changed ≡ changed_pages base words
changes base words changed delta =
    pages-with words changed delta.pages ∙ ap (λ (slots : List ℕ). map (with-page words) slots) delta.slots

-- ---- how many pages change, and where

filter-le : (p : ℕ → Bool) (xs : List ℕ) → length (filter p xs) ≤ length xs
filter-le p [] = omega arith
filter-le p (x ∷ xs) = by (p x) (filter-le p xs)
  where
    by : (b : Bool) → length (filter p xs) ≤ length xs → length (cond b (x ∷ filter p xs) (filter p xs)) ≤ suc (length xs)
    by true rest = omega arith
    by false rest = omega arith

few-slots : (n : ℕ) (base words : List ℕ) → length (changed_below n base words) ≤ n
unfolding changed_below
few-slots n base words = omega (arith, filter-le (differs_at base words) (range_with_len 0 n), length-range_with_len 0 n)

module _ (base words : List ℕ) (changed : List (ℕ × Page)) (are : map changed_page_view changed ≡ changed_pages base words) where
  pub few-changes : length changed ≤ 1024
  few-changes =
      let many = sym (length-map changed changed_page_view) ∙ ap length are ∙ length-map (changed_below 1024 base words) (with-page words) in
      omega (arith, many, few-slots 1024 base words)

  pub low-changes : All (λ (c : ℕ × Page). c.0 < 1024) changed
  low-changes =
      let differences = AreDifferences-changed_below base words (changed_below 1024 base words) refl in
      let low : All (λ (c : ℕ × List ℕ). c.0 < 1024) (changed_pages base words) =
      All-map (λ (c : ℕ × List ℕ). c.0 < 1024) (with-page words) (changed_below 1024 base words) (λ k d lt. (differences.each k d lt).0) in
      unmapped changed_page_view (λ (c : ℕ × List ℕ). c.0 < 1024) changed (rw are low)
