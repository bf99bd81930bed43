-- A property of each value of a mapped list is one of each value of the list.
use Rattle.std.proofs.Common.{◌≡◌, ◌<◌, ◌≤◌, ◌+◌, ◌↔◌, ℕ, List, [], ◌∷◌, arith, get_or, length, map, refl}
use Rattle.std.proofs.lemmas.List.{get_or-map, length-map}
use Rattle.std.proofs.lemmas.List.Elements.{All-map}
use Rattle.std.specs.List.{All}
use Rattle.std.specs.List.Sorted.{IsStrictlyIncreasing}
use Rattle.oberon_session.specs.inner.Tested.{RisesBy}

module _ {X Y : Type 0} (f : Y → X) where
  pub unmapped : (P : X → Type 0) (ys : List Y) → All P (map f ys) → All (λ y. P (f y)) ys
  unmapped P ys all = λ k d lt.
      let within : k < length (map f ys) = simp length-map lt in
      rw (← get_or-map f ys k d (f d) lt) (all k (f d) within)

module _ {X Y : Type 0} where
  pub at-mapped : (number : X → ℕ) (f : Y → X) (ys : List Y) (k : ℕ) (d : Y) → k < length ys
      → get_or (map number (map f ys)) k 0 ≡ number (f (get_or ys k d))
  at-mapped number f ys k d lt =
      let within : k < length (map f ys) = simp length-map lt in
      rw (get_or-map number (map f ys) k (f d) 0 within, get_or-map f ys k d (f d) lt) refl

  rises-map : (number : X → ℕ) (f : Y → X) (ys : List Y) → RisesBy (λ y. number (f y)) ys → IsStrictlyIncreasing (map number (map f ys))
  rises-map number f [] h = λ k lt. absurd (omega arith)
  rises-map number f (y ∷ ys) h = λ k lt.
      let more : k + 1 < length (y ∷ ys) = simp length-map at lt in
      let this : k < length (y ∷ ys) = omega arith in
      rw (at-mapped number f (y ∷ ys) k y this, at-mapped number f (y ∷ ys) (k + 1) y more) (h k y more)

  rises-unmap : (number : X → ℕ) (f : Y → X) (ys : List Y) → IsStrictlyIncreasing (map number (map f ys)) → RisesBy (λ y. number (f y)) ys
  rises-unmap number f ys h = λ k d lt.
      let within : k + 1 < length (map number (map f ys)) = simp length-map lt in
      let this : k < length ys = omega arith in
      rw (← at-mapped number f ys k d this, ← at-mapped number f ys (k + 1) d lt) (h k within)

  pub mapped-rises : (number : X → ℕ) (f : Y → X) (ys : List Y) → RisesBy (λ y. number (f y)) ys ↔ IsStrictlyIncreasing (map number (map f ys))
  mapped-rises number f ys = (rises-map number f ys, rises-unmap number f ys)

  pub mapped-fit : (most : ℕ) (P : X → Type 0) (f : Y → X) (ys : List Y)
      → ((length ys ≤ most) × All (λ y. P (f y)) ys) ↔ ((length (map f ys) ≤ most) × All P (map f ys))
  mapped-fit most P f ys = (
    λ h. (simp length-map h.0, All-map P f ys h.1),
    λ h. (simp length-map at h.0, unmapped f P ys h.1),
  )
