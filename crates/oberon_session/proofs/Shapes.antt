-- What is read of each item of a list, an item at a time.
use Rattle.std.proofs.Common.{◌≡◌, ◌+◌, ◌<◌, ◌++◌, ℕ, zero, suc, List, [], ◌∷◌, Option, Some, None, arith, refl, length, map, take, get_or}
use Rattle.std.proofs.lemmas.List.{map_more}
use Rattle.oberon_session.specs.Shape.{each}

module _ {A X : Type 0} (read : A → Option X) where
  each-more : (xs : List A) (x : A) (ys : List X) (y : X) → each read xs ≡ Some ys → read x ≡ Some y → each read (xs ++ x ∷ []) ≡ Some (ys ++ y ∷ [])
  each-more [] x ys y all one =
      let none : [] ≡ ys = cc in
      rw (one, ← none) refl
  each-more (d ∷ ds) x ys y all one = go (read d) (each read ds) (λ zs rest. each-more ds x zs y rest one) refl refl all
    where
      go : (first : Option X) (others : Option (List X)) → ((zs : List X) → each read ds ≡ Some zs → each read (ds ++ x ∷ []) ≡ Some (zs ++ y ∷ [])) → read d ≡ first → each read ds ≡ others → each read (d ∷ ds) ≡ Some ys → each read ((d ∷ ds) ++ x ∷ []) ≡ Some (ys ++ y ∷ [])
      go None others more at rest all =
          let bad : None ≡ Some ys = rw at at all in
          cc
      go (Some z) None more at rest all =
          let bad : None ≡ Some ys = rw (at, rest) at all in
          cc
      go (Some z) (Some zs) more at rest all =
          let is : Some (z ∷ zs) ≡ Some ys = rw (at, rest) at all in
          let same : z ∷ zs ≡ ys = cc in
          let after = more zs rest in
          rw (at, after, ← same) refl

  -- one step of a loop over the items
  pub each-step : {V : Type 0} (view : V → A) (values : List V) (i : ℕ) (value : V) (ys : List X) (y : X) → i < length values → each read (map view (take i values)) ≡ Some ys
      → read (view (get_or values i value)) ≡ Some y → each read (map view (take (i + 1) values)) ≡ Some (ys ++ y ∷ [])
  each-step view values i value ys y lt all one = rw (map_more view values i value lt) (each-more _ _ ys y all one)

  pub each-none : {V : Type 0} (view : V → A) (values : List V) (i : ℕ) (value : V) → i < length values → read (view (get_or values i value)) ≡ None → each read (map view values) ≡ None
  each-none view [] i value lt none = absurd (omega arith)
  each-none view (v ∷ vs) zero value lt none = rw none refl
  each-none view (v ∷ vs) (suc i) value lt none = go (read (view v)) (each-none view vs i value (omega arith) none) refl
    where
      go : (first : Option X) → each read (map view vs) ≡ None → read (view v) ≡ first → each read (map view (v ∷ vs)) ≡ None
      go None rest at = rw at refl
      go (Some z) rest at = rw (at, rest) refl
