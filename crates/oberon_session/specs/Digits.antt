-- The page that hexadecimal digits encode.
use Rattle.std.specs.Prelude.{ℕ, ◌+◌, ◌*◌, ◌^◌, List, map, slice_index, Option, Some, None, Result, Ok, Err}
use Rattle.std.specs.List.{range_with_len}
use Rattle.hex.specs.Hex.{decode_of}
use Rattle.oberon_session.specs.Shape.{◌>>=◌, each}
use Rattle.oberon_session.specs.Draft.{PageText}

-- a page and its slot
pub record PlacedWords : Type 0 where
  pub at : ℕ
  pub words : List ℕ

-- word i of a page of these first bytes: bytes 4 * i to 4 * i + 3, the lowest first. Bytes that aren't there are 0
abbrev pub word_of_bytes : List ℕ → ℕ → ℕ
word_of_bytes bytes i =
    slice_index bytes (4 * i)
    + 2 ^ 8 * slice_index bytes (4 * i + 1)
    + 2 ^ 16 * slice_index bytes (4 * i + 2)
    + 2 ^ 24 * slice_index bytes (4 * i + 3)

-- the words of a page of these first bytes
unfoldable pub words_of_bytes : List ℕ → List ℕ
words_of_bytes bytes = map (word_of_bytes bytes) (range_with_len 0 256)

-- the value of a result, if it is not an error
abbrev pub ok_of : {T E : Type 0} → Result T E → Option T
ok_of (Ok x) = Some x
ok_of (Err e) = None

-- the page that digits encode, if they are hexadecimal and their number is even
abbrev pub placed_of : PageText → Option PlacedWords
placed_of page = do
  bytes ← ok_of (decode_of page.hex)
  Some (record { at = page.at; words = words_of_bytes bytes })

-- the pages, if the digits of each encode one
abbrev pub all_placed_of : List PageText → Option (List PlacedWords)
all_placed_of = each placed_of
