-- Pages of 256 words each, with ids in a pool from 1 on. They are this project's own choice.
use Rattle.std.specs.Prelude.{ℕ, ◌≡◌, ◌-◌, ◌*◌, ◌^◌, ◌<◌, ◌==◌, List, All, drop, take}
use Rattle.std.specs.Prelude.{replicate, slice_index_or, if◌then◌else◌, length}

-- the words of the page of zeros
unfoldable pub zero_page : List ℕ
zero_page = replicate 256 0

-- the words of the page with this id: id 0 is the page of zeros, id n + 1 is the pool's page n
unfoldable pub page_of : List (List ℕ) → ℕ → List ℕ
page_of pool n = if n == 0 then zero_page else slice_index_or pool (n - 1) zero_page

-- the words of page p of a memory: 256 * p .. 256 * p + 255
unfoldable pub page_at : List ℕ → ℕ → List ℕ
page_at words p = take 256 (drop (256 * p) words)

-- the words of a page
pub record IsPage (words : List ℕ) : Type 0 where
  pub whole : length words ≡ 256
  pub fit : All (λ word. word < 2 ^ 32) words

-- each of these is a page
abbrev pub ArePages : List (List ℕ) → Type 0
ArePages pool = All IsPage pool
