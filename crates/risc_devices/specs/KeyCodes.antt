-- The waiting key codes as a list, oldest first ("Project Oberon" 2013, the hardware chapters: a queue of the keyboard).
use Rattle.std.specs.Prelude.{ℕ, ◌^◌, List, [], ◌∷◌, ◌++◌, length, nat_lt, if◌then◌else◌}

-- a code joins the end, and is dropped if sixteen wait (this project's own choice)
unfoldable pub joined : ℕ → List ℕ → List ℕ
joined code keys = if nat_lt (length keys) 16 then keys ++ code ∷ [] else keys

-- the oldest code; 0 if none waits (this project's own choice)
abbrev pub oldest : List ℕ → ℕ
oldest [] = 0
oldest (code ∷ _) = code

-- bit 28 of the mouse's device word, set if and only if a code waits
abbrev pub key_bit : List ℕ → ℕ
key_bit [] = 0
key_bit (_ ∷ _) = 2 ^ 28
