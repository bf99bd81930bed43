-- Tables of page ids. They are this project's own choice.
use Rattle.std.specs.Prelude.{ℕ, ◌≡◌, ◌^◌, ◌<◌, List, All, length, replicate, ◌/◌, ◌%◌, ◌≤◌, slice_index}
use Rattle.std.specs.List.{flat_map}
use Rattle.risc_pages.specs.Pages.{page_of}

-- the table with the page of zeros in each slot
unfoldable pub zero_numbers : List ℕ
zero_numbers = replicate 1024 0

-- as many page ids as a memory has slots, each a number of four bytes
pub record IsTable (numbers : List ℕ) : Type 0 where
  pub count : length numbers ≡ 1024
  pub fit : All (λ n. n < 2 ^ 32) numbers

-- the content of a table over a pool: the pages that it names, concatenated
abbrev pub table_words : List (List ℕ) → List ℕ → List ℕ
table_words pool numbers = flat_map (page_of pool) numbers

-- each page id is 0 or that of a page of the pool
abbrev pub IsNamed : List (List ℕ) → List ℕ → Type 0
IsNamed pool numbers = All (λ n. n ≤ length pool) numbers

-- the content, word by word: word w is word w mod 256 of the page that the table names in slot w div 256
pub record IsContent (words : List ℕ) (pool : List (List ℕ)) (numbers : List ℕ) : Type 0 where
  pub count : length words ≡ 262144
  pub word : (w : ℕ) → w < 262144 → slice_index words w ≡ slice_index (page_of pool (slice_index numbers (w / 256))) (w % 256)
