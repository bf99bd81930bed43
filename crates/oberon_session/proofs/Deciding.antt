-- The tests of ranges and order hold exactly if the propositions do.
use Rattle.std.proofs.Common.{◌≡◌, ◌<◌, ◌≤◌, ◌+◌, ◌^◌, ◌&&◌, ◌==◌, ℕ, zero, suc, Bool, List, [], ◌∷◌, arith, length, refl, subst}
use Rattle.std.proofs.lemmas.Bool.{le-leb, leb-true}
use Rattle.std.proofs.lemmas.Bool.Decides.{Decides-and, Decides-by_and, Decides-eqb, Decides-like, Decides-ltb, Decides-not}
use Rattle.std.specs.Bool.{Decides}
use Rattle.std.specs.List.{All, list_all}
use Rattle.std.specs.Prelude.{nat_le, nat_lt, not, slice_index}
use Rattle.oberon_session.specs.Draft.{Draft, InputNumbers, PageText, Start}
use Rattle.oberon_session.specs.Ranges.{count_fits, in_order, in_range, input_counts, input_fits, max_inputs, of_neighbours, page_fits, slots_of, start_fits, timer_fits}
use Rattle.oberon_session.specs.SessionParts.{CountFits}
use Rattle.oberon_session.specs.inner.Tested.{InOrder, InRange, InputFits, PageFits, StartFits}
use Rattle.risc_core.specs.declared.branch.TheConstants.{COUNTER_END}
use Rattle.risc_devices.specs.declared.kinds.TheConstants.{DISK}
use Rattle.risc_model.specs.declared.inputs.TheConstants.{MAX_COUNT}
use Rattle.recording_limits.specs.declared.limits.TheConstants.{LAST_CHECKPOINT}

decides-le : (a b : ℕ) → Decides (nat_le a b) (a ≤ b)
decides-le a b = (leb-true a b, le-leb a b)

decides-all : {X : Type 0} (test : X → Bool) (P : X → Type 0) → ((x : X) → Decides (test x) (P x)) → (xs : List X) → Decides (list_all test xs) (All P xs)
decides-all test P each = Decides-by_and test P (list_all test) each refl (λ _ _. refl)

-- no input is an answer of a disk
pub decides-unanswered : (inputs : List InputNumbers) → Decides (list_all (λ input. not (input.kind == DISK)) inputs) (All (λ input. ¬ (input.kind ≡ DISK)) inputs)
decides-unanswered =
    decides-all (λ (input : InputNumbers). not (input.kind == DISK)) (λ input. ¬ (input.kind ≡ DISK))
    (λ input. Decides-not (input.kind == DISK) (Decides-eqb input.kind DISK))

-- numbers in their ranges, and a list that is not too long
decides-few : {X : Type 0} (most : ℕ) (test : X → Bool) (P : X → Type 0) → ((x : X) → Decides (test x) (P x)) → (xs : List X)
    → Decides (nat_le (length xs) most && list_all test xs) ((length xs ≤ most) × All P xs)
decides-few most test P each xs = Decides-and (nat_le (length xs) most) (list_all test xs) (decides-le (length xs) most) (decides-all test P each xs)

-- ---- ranges

decides-start : (start : Start) → Decides (start_fits start) (StartFits start)
decides-start start =
    let registers = decides-all (λ register. nat_lt register (2 ^ 32)) (λ register. register < 2 ^ 32) (λ register. Decides-ltb register (2 ^ 32)) start.registers in
    let words = Decides-and _ _ (Decides-and _ _ registers (Decides-ltb start.h (2 ^ 32))) (Decides-ltb start.pc COUNTER_END) in
    let timer = Decides-and _ (timer_fits start.rate start.phase) (Decides-and _ _ words (Decides-ltb start.flags 16)) (λ h. h, λ h. h) in
    Decides-like (start_fits start) (λ h. (h.0.0.0.0.0, h.0.0.0.0.1, h.0.0.0.1, h.0.0.1, h.0.1, h.1)) (λ h. (((((h.0, h.1), h.2), h.3), h.4), h.5))
    (Decides-and _ _ timer (Decides-ltb start.disk (2 ^ 32)))

decides-page : (page : PageText) → Decides (page_fits page) (PageFits page)
decides-page page = Decides-and _ _ (Decides-ltb page.at 1024) (decides-le (length page.hex) 2048)

decides-input : (input : InputNumbers) → Decides (input_fits input) (InputFits input)
decides-input input = Decides-and _ _ (decides-le input.count MAX_COUNT) (λ h. h, λ h. h)

decides-count : (count : ℕ) → Decides (count_fits count) (CountFits count)
decides-count count = Decides-and _ _ (decides-le 1 count) (decides-le count MAX_COUNT)

pub decides-range : (draft : Draft) → Decides (in_range draft) (InRange draft)
unfolding in_range
decides-range draft =
    Decides-like (in_range draft) (λ h. record { start = h.0.0.0; pages = h.0.0.1; inputs = h.0.1; checkpoints = h.1 })
    (λ h. (((h.start, h.pages), h.inputs), h.checkpoints))
    (Decides-and _ _
    (Decides-and _ _ (Decides-and _ _ (decides-start draft.start) (decides-few 1024 page_fits PageFits decides-page draft.pages))
    (decides-few (max_inputs draft.version) input_fits InputFits decides-input draft.inputs))
    (decides-few LAST_CHECKPOINT count_fits CountFits decides-count draft.checkpoints))

-- ---- order

-- a relation of each number to the next
module _ (test : ℕ → ℕ → Bool) (R : ℕ → ℕ → Type 0) (each : (a b : ℕ) → Decides (test a b) (R a b)) where
  abbrev OfNeighbours : List ℕ → Type 0
  OfNeighbours xs = (k : ℕ) → k + 1 < length xs → R (slice_index xs k) (slice_index xs (k + 1))

  in-front : (x y : ℕ) (ys : List ℕ) → R x y × OfNeighbours (y ∷ ys) → OfNeighbours (x ∷ y ∷ ys)
  in-front x y ys h zero inside = h.0
  in-front x y ys h (suc k) inside =
      let next : suc k + 1 ≡ suc (k + 1) = omega arith in
      rw next (h.1 k (omega arith))

  after : (x y : ℕ) (ys : List ℕ) → OfNeighbours (x ∷ y ∷ ys) → OfNeighbours (y ∷ ys)
  after x y ys h k inside =
      let next : suc k + 1 ≡ suc (k + 1) = omega arith in
      subst (λ (n : ℕ). R (slice_index (y ∷ ys) k) (slice_index (x ∷ y ∷ ys) n)) next (h (suc k) (omega arith))

  decides-neighbours : (xs : List ℕ) → Decides (of_neighbours test xs) (OfNeighbours xs)
  decides-neighbours [] = (λ _ k inside. absurd (omega arith), λ _. refl)
  decides-neighbours (x ∷ []) = (λ _ k inside. absurd (omega arith), λ _. refl)
  decides-neighbours (x ∷ y ∷ ys) =
      Decides-like (of_neighbours test (x ∷ y ∷ ys)) (in-front x y ys) (λ h. (h 0 (omega arith), after x y ys h))
      (Decides-and (test x y) (of_neighbours test (y ∷ ys)) (each x y) (decides-neighbours (y ∷ ys)))

pub decides-order : (draft : Draft) → Decides (in_order draft) (InOrder draft)
unfolding in_order
decides-order draft =
    Decides-like (in_order draft) (λ h. record { pages = h.0.0; inputs = h.0.1; checkpoints = h.1 }) (λ h. ((h.pages, h.inputs), h.checkpoints))
    (Decides-and _ _
    (Decides-and _ _ (decides-neighbours nat_lt (λ a b. a < b) Decides-ltb (slots_of draft.pages))
    (decides-neighbours nat_le (λ a b. a ≤ b) decides-le (input_counts draft.inputs)))
    (decides-neighbours nat_lt (λ a b. a < b) Decides-ltb draft.checkpoints))
