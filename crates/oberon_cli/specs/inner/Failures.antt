-- The failures of the reading loop, and what one turn of it reads.
use Rattle.std.specs.Prelude.{ℕ, ◌≡◌, ◌<◌, ◌≤◌, ◌++◌, List, Bool, false, length}
use Rattle.std.specs.Io.KnownBytes.{Consumes}
use Rattle.oberon_cli.specs.Transfer.{Known, Fails, Goes}
use Rattle.oberon_cli.specs.declared.failure.Failure.{Failure}
use Rattle.oberon_cli.specs.declared.failure.Failure.TheVariants.{Words, Read, Memory}

-- a read failed if and only if the failure says so, and the loop has no other failure but that memory runs out
abbrev pub IsReadFault : Known → Known → Failure → Type 0
IsReadFault old new Words = ⊥
IsReadFault old new Read = Fails new
IsReadFault old new Memory = Goes old new

-- one turn appends `got` to the bytes: at most `most` bytes, and at least one if the input has not ended
abbrev pub GainsInTurn : Known → Known → List ℕ → List ℕ → ℕ → Bool → Type 0
GainsInTurn old new bytes bytes' most ended =
    (got : List ℕ) × (bytes' ≡ bytes ++ got) × (length got ≤ most) × (ended ≡ false → 0 < length got)
    × Consumes old.bytes new.bytes got
