-- The first broken rule of a list, for faults of any type.
use Rattle.std.proofs.Common.{◌≡◌, ◌<◌, ℕ, zero, suc, Bool, true, false, List, [], ◌∷◌, ◌++◌, None, Some, refl, ap, sym, ◌∙◌, arith, inl, inr}
use Rattle.std.specs.Prelude.{All}
use Rattle.std.proofs.lemmas.Bool.{cases_lt}
use Rattle.std.proofs.lemmas.List.Elements.{All-nil, All-cons, All-head, All-tail}
use Rattle.oberon_format.specs.FirstFault.{Rule, each, first_broken}

-- this is the fault of the first broken rule: each rule before it holds
pub record BrokenAt {F : Type 0} (rules : List (Rule F)) (fault : F) : Type 0 where
  pub before : List (Rule F)
  pub after : List (Rule F)
  pub split : rules ≡ before ++ (false, fault) ∷ after
  pub held : All (λ rule. rule.0 ≡ true) before

module _ {F : Type 0} where
  abbrev Held : Rule F → Type 0
  Held rule = rule.0 ≡ true

  pub met_append : (xs ys : List (Rule F)) → first_broken xs ≡ None → first_broken (xs ++ ys) ≡ first_broken ys
  met_append [] ys h = refl
  met_append ((true, f) ∷ xs) ys h = met_append xs ys h
  met_append ((false, f) ∷ xs) ys h = absurd cc

  pub broken_append : (xs ys : List (Rule F)) (g : F) → first_broken xs ≡ Some g → first_broken (xs ++ ys) ≡ Some g
  broken_append [] ys g h = absurd cc
  broken_append ((true, f) ∷ xs) ys g h = broken_append xs ys g h
  broken_append ((false, f) ∷ xs) ys g h = h

  pub met_left : (xs ys : List (Rule F)) → first_broken (xs ++ ys) ≡ None → first_broken xs ≡ None
  met_left [] ys h = refl
  met_left ((true, f) ∷ xs) ys h = met_left xs ys h
  met_left ((false, f) ∷ xs) ys h = absurd cc

  pub met_right : (xs ys : List (Rule F)) → first_broken (xs ++ ys) ≡ None → first_broken ys ≡ None
  met_right xs ys h = sym (met_append xs ys (met_left xs ys h)) ∙ h

  -- the first broken rule of a list that begins with this rule
  pub met : (b : Bool) (f : F) (xs : List (Rule F)) → b ≡ true → first_broken xs ≡ None → first_broken ((b, f) ∷ xs) ≡ None
  met b f xs h e = rw h e

  pub unmet : (b : Bool) (f : F) (xs : List (Rule F)) → b ≡ false → first_broken ((b, f) ∷ xs) ≡ Some f
  unmet b f xs h = rw h refl

  pub hold : (xs : List (Rule F)) → first_broken xs ≡ None → All (λ rule. rule.0 ≡ true) xs
  hold [] h = All-nil Held
  hold ((true, f) ∷ xs) h = All-cons Held (true, f) xs refl (hold xs h)
  hold ((false, f) ∷ xs) h = absurd cc

  -- lists with one rule for each number
  module _ (holds : ℕ → Bool) (fault : ℕ → F) where
    abbrev pub singly : ℕ → List (Rule F)
    singly k = (holds k, fault k) ∷ []

    pub each_met : (n : ℕ) → ((k : ℕ) → k < n → holds k ≡ true) → first_broken (each n singly) ≡ None
    unfolding each
    each_met zero h = refl
    each_met (suc n) h =
        met_append (each n singly) (singly n) (each_met n (λ k lt. h k (omega arith))) ∙ met (holds n) (fault n) [] (h n (omega arith)) refl

    pub each_holds : (n : ℕ) → first_broken (each n singly) ≡ None → (k : ℕ) → k < n → holds k ≡ true
    unfolding each
    each_holds zero h k lt = absurd (omega arith)
    each_holds (suc n) h k lt =
        elim (cases_lt k n) [
          | inl less ↦ each_holds n (met_left (each n singly) (singly n) h) k less
          | inr more ↦
              let e : n ≡ k = omega arith in
              ap holds (sym e) ∙ hold (singly n) (met_right (each n singly) (singly n) h) 0 (true, fault n) (omega arith)
        ]

    pub each_unmet : (n i : ℕ) → i < n → ((k : ℕ) → k < i → holds k ≡ true) → holds i ≡ false → first_broken (each n singly) ≡ Some (fault i)
    unfolding each
    each_unmet zero i lt h e = absurd (omega arith)
    each_unmet (suc n) i lt h e =
        elim (cases_lt i n) [
          | inl less ↦ broken_append (each n singly) (singly n) (fault i) (each_unmet n i less h e)
          | inr more ↦
              let last : n ≡ i = omega arith in
              met_append (each n singly) (singly n) (each_met n (λ k below. h k (omega arith)))
              ∙ ap (λ (k : ℕ). first_broken (singly k)) last
              ∙ unmet (holds i) (fault i) [] e
        ]

  -- a fault is that of the first broken rule exactly if its rule is broken and each rule before it holds
  pub broken_at : (xs : List (Rule F)) (g : F) → first_broken xs ≡ Some g → BrokenAt xs g
  broken_at [] g h = absurd cc
  broken_at ((true, f) ∷ xs) g h =
      let rest = broken_at xs g h in record {
        before = (true, f) ∷ rest.before;
        after = rest.after;
        split = ap (λ (l : List (Rule F)). (true, f) ∷ l) rest.split;
        held = All-cons Held (true, f) rest.before refl rest.held;
      }
  broken_at ((false, f) ∷ xs) g h =
      let e : f ≡ g = cc in record {
        before = [];
        after = xs;
        split = ap (λ (x : F). (false, x) ∷ xs) e;
        held = All-nil Held;
      }

  broken_after : (xs ys : List (Rule F)) (g : F) → All (λ rule. rule.0 ≡ true) xs → first_broken (xs ++ (false, g) ∷ ys) ≡ Some g
  broken_after [] ys g held = refl
  broken_after ((b, f) ∷ xs) ys g held =
      let here : b ≡ true = All-head Held (b, f) xs held in
      rw here (broken_after xs ys g (All-tail Held (b, f) xs held))

  pub broken_from : (xs : List (Rule F)) (g : F) → BrokenAt xs g → first_broken xs ≡ Some g
  broken_from xs g at = ap first_broken at.split ∙ broken_after at.before at.after g at.held
