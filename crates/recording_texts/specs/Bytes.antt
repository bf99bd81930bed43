-- Numbers as the bytes of a file, lowest byte first, as docs/formats.md defines them.
use Rattle.std.specs.Prelude.{ℕ, zero, suc, List, [], ◌∷◌, ◌++◌, min, slice_index_or, slice_set}
use Rattle.std.specs.Int.{w32, w64, to_le_bytes}
use Rattle.std.specs.List.{flat_map, fold}

-- the four bytes of a number
abbrev pub word_bytes : ℕ → List ℕ
word_bytes word = to_le_bytes w32 word

-- the bytes of each number, one after another
abbrev pub words_bytes : List ℕ → List ℕ
words_bytes words = flat_map word_bytes words

-- the eight bytes of a number
abbrev pub long_bytes : ℕ → List ℕ
long_bytes count = to_le_bytes w64 count

-- a length, capped to the greatest number of four bytes
abbrev pub length_number : ℕ → ℕ
length_number len = min len 0xFFFFFFFF

-- n numbers: those of the list, and then zeros
unfoldable pub padded : List ℕ → ℕ → List ℕ
padded numbers zero = []
padded numbers (suc n) = padded numbers n ++ slice_index_or numbers n 0 ∷ []

-- each number at its index, if there is such an index; of two at one index the later one wins
abbrev pub set_numbers : List ℕ → List (ℕ × ℕ) → List ℕ
set_numbers words numbers = fold (λ ws n. slice_set ws n.0 n.1) words numbers
