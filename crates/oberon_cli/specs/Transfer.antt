-- What a loop over a reader or a writer does with the bytes that are known to be in them.
use Rattle.std.specs.Prelude.{◌≡◌, ◌<◌, ◌≤◌, IsTrue, ℕ, List, length, take, Bool, Option}
use Rattle.std.specs.Io.KnownBytes.{Appends, Consumes, IsAtEnd}

-- the bytes that a reader still has, or that a writer was given, if they are known; and whether a call of it has failed, or may
-- have
pub record Known : Type 0 where
  pub bytes : Option (List ℕ)
  pub failed : Bool

-- no call failed between the two states
abbrev pub Goes : Known → Known → Type 0
Goes old new = new.failed ≡ old.failed

-- a call has failed, up to this state
abbrev pub Fails : Known → Type 0
Fails new = IsTrue new.failed

-- the bytes were taken from the reader: all that it had, or the first `limit` of them. No read failed
pub record IsReadUpTo (limit : ℕ) (old new : Known) (bytes : List ℕ) : Type 0 where
  pub taken : Consumes old.bytes new.bytes bytes
  pub within : length bytes ≤ limit
  pub whole : length bytes < limit → IsAtEnd new.bytes
  pub goes : Goes old new

-- no more than `limit` bytes were taken from the reader
abbrev pub TakesAtMost : ℕ → Known → Known → Type 0
TakesAtMost limit old new = (bytes : List ℕ) × (length bytes ≤ limit) × Consumes old.bytes new.bytes bytes

-- the writer got all of the bytes, and no write failed
abbrev pub GainsWhole : List ℕ → Known → Known → Type 0
GainsWhole text old new = Appends old.bytes new.bytes text × Goes old new

-- a write failed after a prefix of the bytes, and the writer got nothing else
abbrev pub GainsPrefix : List ℕ → Known → Known → Type 0
GainsPrefix text old new = (n : ℕ) × (n ≤ length text) × Appends old.bytes new.bytes (take n text) × Fails new
