-- The result of a book, once all its passes are back.
use Rattle.std.specs.Prelude.{◌≡◌, ℕ, ◌<◌, ◌≤◌, List, [], ◌∷◌, ◌++◌, length, true, Option, MatchOption, All, Contains, HoldsAt}
use Rattle.oberon_claims.specs.Pass.{PassRecord}

-- the jobs that the passes took, concatenated in the order of the passes
abbrev pub all_taken : List PassRecord → List ℕ
all_taken [] = []
all_taken (p ∷ ps) = p.taken ++ all_taken ps

-- the segments that the passes reported, in the same way
abbrev pub all_reported : List PassRecord → List ℕ
all_reported [] = []
all_reported (p ∷ ps) = p.reported ++ all_reported ps

-- the values that the passes were shown, in the same way
abbrev pub all_shown : List PassRecord → List ℕ
all_shown [] = []
all_shown (p ∷ ps) = p.shown ++ all_shown ps

-- some pass was answered `None`
abbrev pub SomeEnded : List PassRecord → Type 0
SomeEnded ps = (k : ℕ) × (k < length ps) × HoldsAt (λ (p : PassRecord). p.ended ≡ true) ps k

-- the answer is the least number of the list, or `None` if the list is empty
abbrev pub IsLeastOf : List ℕ → Option ℕ → Type 0
IsLeastOf xs least = MatchOption least (xs ≡ []) (λ x. Contains xs x × All (λ y. x ≤ y) xs)

-- no number of the list is below `least`; if that is `None`, the list is empty
abbrev pub IsNotBelow : Option ℕ → List ℕ → Type 0
IsNotBelow least xs = MatchOption least (xs ≡ []) (λ x. All (λ y. x ≤ y) xs)
