-- The comparison of the bytes sent with the expected ones, byte by byte (this project's own choice).
use Rattle.std.specs.Prelude.{◌≡◌, ◌++◌, List, ℕ, Bool, true, false, ◌≤◌, length, take}
use Rattle.risc_machine.specs.declared.sink.Matching.{Matching}

-- the first `taken` expected bytes were sent and nothing else; or the bytes sent are no prefix of the expected ones
pub record IsMatched (expected : List ℕ) (taken : ℕ) (same : Bool) (sent : List ℕ) : Type 0 where
  pub inside : taken ≤ length expected
  pub matched : same ≡ true → sent ≡ take taken expected
  pub other : same ≡ false → (rest : List ℕ) → sent ++ rest ≡ expected → ⊥

-- the same of a comparison
abbrev pub HasMatched : Matching → List ℕ → Type 0
HasMatched m sent = IsMatched m.expected.now m.taken m.same sent
