-- Changes of memory, bit by bit.
use Rattle.std.specs.Prelude.{ℕ, ◌≡◌, ◌≢◌, ◌<◌, ◌+◌, ◌*◌, ◌/◌, List, slice_index, true}
use Rattle.risc_core.specs.Word.{bit}
use Rattle.risc_search.specs.declared.span.Span.{Span}
use Rattle.risc_search.specs.Span.{IsIn}

-- a bit of a byte in the range differs. Bit i of the mask names bit i of each word, and only bits that it names count
pub record Differ (bytes : Span) (mask : ℕ) (before after : List ℕ) : Type 0 where
  pub word : ℕ
  pub index : ℕ
  pub inside : index < 32
  pub named : bit mask index ≡ true
  pub byte : IsIn bytes (4 * word + index / 8)
  pub differs : bit (slice_index before word) index ≢ bit (slice_index after word) index
