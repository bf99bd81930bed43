-- The picture of a display: 1,024 by 768 dots, 32 words a line, line 0 lowest, bit 0 of a word its leftmost dot ("Project Oberon"
-- 2013, the hardware chapters). It is a binary PBM, whose rows go from the top down, and whose bytes hold eight dots each, the
-- leftmost in the highest bit (this project's own choice).
use Rattle.std.specs.Prelude.{◌≡◌, ℕ, ◌+◌, ◌-◌, ◌*◌, ◌/◌, ◌%◌, ◌^◌, ◌<◌, List, length, take, slice_index, All, codes}

-- the first twelve bytes: `P4`, a line feed, `1024 768`, a line feed
abbrev pub picture_head : List ℕ
picture_head = codes "P4\n1024 768\n"

-- the dot at x, y of the display's words: bit x mod 32 of word 32 * y + x div 32
abbrev pub dot : List ℕ → ℕ → ℕ → ℕ
dot words x y = slice_index words (32 * y + x / 32) / 2 ^ (x % 32) % 2

-- the byte has the eight dots of its position in a row: bit 7 - j is the dot at x = 8 * col + j, y = 767 - row
abbrev pub HasDots : List ℕ → ℕ → ℕ → ℕ → Type 0
HasDots words row col byte = (j : ℕ) → j < 8 → byte / 2 ^ (7 - j) % 2 ≡ dot words (8 * col + j) (767 - row)

-- the bytes are the picture of the display's words
pub record IsPicture (words bytes : List ℕ) : Type 0 where
  pub len : length bytes ≡ 98316
  pub bytes_fit : All (λ byte. byte < 2 ^ 8) bytes
  pub head : take 12 bytes ≡ picture_head
  pub dots : (row col : ℕ) → row < 768 → col < 128 → HasDots words row col (slice_index bytes (12 + (128 * row + col)))
