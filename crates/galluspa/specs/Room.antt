-- How many bytes an answer takes in the memory of a caller.
use Rattle.std.specs.Prelude.{ℕ, ◌≡◌, ◌<◌, List, length}

-- the bytes are such an answer, with its status
abbrev pub IsAnswer : (List ℕ → ℕ → Type 0) → List ℕ → Type 0
IsAnswer Is bytes = (status : ℕ) × Is bytes status

-- such bytes are there, but they are more than there is room for: so many are needed
abbrev pub NeedsRoom : (List ℕ → Type 0) → ℕ → ℕ → Type 0
NeedsRoom Is room needed = (bytes : List ℕ) × Is bytes × (needed ≡ length bytes) × (room < needed)
