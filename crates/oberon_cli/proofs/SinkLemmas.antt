-- What a write that takes nothing does to the bytes of a writer.
use Rattle.std.proofs.Common.{◌≡◌, ◌∙◌, List, ℕ, zero, suc, Option, None, Some, append-nil, arith, take}
use Rattle.std.specs.Io.KnownBytes.{Appends, Keeps}

pub none_taken : (a b : Option (List ℕ)) (n : ℕ) (rest : List ℕ) → n ≡ 0 → Appends a b (take n rest) → Keeps a b
none_taken None b n rest none is = tt
none_taken (Some x) None n rest none is = absurd is
none_taken (Some x) (Some y) zero rest none is = is ∙ append-nil x
none_taken (Some x) (Some y) (suc n) rest none is = absurd (omega (arith, none))
