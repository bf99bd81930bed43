-- The first broken rule of a list, for any type of faults: those of a recording file, or those of a session.
use Rattle.std.specs.Prelude.{ℕ, zero, suc, Bool, if◌then◌else◌, List, [], ◌∷◌, ◌++◌, Option, Some, None}

-- a rule: whether it holds, and the fault if it does not
abbrev pub Rule : Type 0 → Type 0
Rule Fault = Bool × Fault

-- the fault of the first rule that is broken
abbrev pub first_broken : {Fault : Type 0} → List (Rule Fault) → Option Fault
first_broken [] = None
first_broken ((holds, fault) ∷ rules) = if holds then first_broken rules else Some fault

-- the rules of the numbers 0, 1, .. n - 1, one after another
unfoldable pub each : {Fault : Type 0} → ℕ → (ℕ → List (Rule Fault)) → List (Rule Fault)
each zero rules = []
each (suc n) rules = each n rules ++ rules n
