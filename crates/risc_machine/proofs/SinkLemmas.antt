-- Runs with output of a bounded length.
use Rattle.std.specs.Prelude.{◌≡◌, ◌≤◌, ◌∷◌, [], ℕ, List, Result, Ok, Err, OnOk, IfErr, length, slice_index}
use Rattle.std.proofs.Common.{ap, subst, sym}
use Rattle.risc_machine.specs.declared.sink.Output.{Output}

-- the output has room for its bytes
abbrev pub Taken : Output → Type 0
Taken o = length o.bytes.items ≤ o.room

-- so it has if it has taken some bytes
pub taken : (o : Output) (l : List ℕ) → (o.bytes.items ≡ l) × (length l ≤ o.room) → Taken o
taken o l took = subst (λ (x : List ℕ). length x ≤ o.room) (sym took.0) took.1

-- what holds of a run that came to its end, and of one that did not
pub either : {T E P : Type 0} (r : Result T E) → OnOk r P → IfErr r (λ _. P) → P
either (Ok x) done failed = done
either (Err e) done failed = failed

-- equal lists of one number have the same number
pub first : {a b : ℕ} → a ∷ [] ≡ b ∷ [] → a ≡ b
first same = ap (λ (l : List ℕ). slice_index l 0) same
