-- The changes of a memory since it was made, its delta. They are this project's own choice.
use Rattle.std.specs.Prelude.{ℕ, ◌≡◌, ◌≢◌, ◌<◌, Bool, List, All, Contains, filter, map, nat_eq, not}
use Rattle.std.specs.Cmp.Lexicographic.{pointwise}
use Rattle.std.specs.List.{range_with_len}
use Rattle.std.specs.List.Sorted.{IsStrictlyIncreasing}
use Rattle.risc_pages.specs.declared.page.Page.{Page}
use Rattle.risc_pages.specs.Pages.{page_at}

-- whether page p of the two memories differs in some word
unfoldable pub differs_at : List ℕ → List ℕ → ℕ → Bool
differs_at base words p = not (pointwise nat_eq (page_at words p) (page_at base p))

-- the page slots below n in which the two memories differ, in rising order
unfoldable pub changed_below : ℕ → List ℕ → List ℕ → List ℕ
changed_below n base words = filter (differs_at base words) (range_with_len 0 n)

-- the page slots of a delta
abbrev pub changed_slots : List (ℕ × Page) → List ℕ
changed_slots changed = map (λ (c : ℕ × Page). c.0) changed

-- a delta lists the slots that differ, each with the page that is now in it
pub record IsDelta (base words : List ℕ) (changed : List (ℕ × Page)) : Type 0 where
  pub slots : changed_slots changed ≡ changed_below 1024 base words
  pub pages : All (λ (c : ℕ × Page). c.1.words ≡ page_at words c.0) changed

-- the law of these slots: they rise, each one differs, and each slot that differs is one of them
pub record AreDifferences (base words slots : List ℕ) : Type 0 where
  pub rising : IsStrictlyIncreasing slots
  pub each : All (λ p. (p < 1024) × (page_at words p ≢ page_at base p)) slots
  pub all : (p : ℕ) → p < 1024 → page_at words p ≢ page_at base p → Contains slots p

-- the two differ in this page, and have the same words in each page before it
pub record IsFirstDifferentPage (xs ys : List ℕ) (slot : ℕ) : Type 0 where
  pub inside : slot < 1024
  pub before : (p : ℕ) → p < slot → page_at xs p ≡ page_at ys p
  pub differs : page_at xs slot ≢ page_at ys slot
