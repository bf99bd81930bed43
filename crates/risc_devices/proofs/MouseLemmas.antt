-- A mouse word's fields, and the bits of its mask.
use Rattle.std.proofs.Common.{◌≡◌, ℕ, ◌+◌, ◌-◌, ◌*◌, ◌/◌, ◌%◌, ◌^◌, ◌<◌, inl, inr, refl, sym, subst, ◌∙◌, arith}
use Rattle.std.specs.Prelude.{IsTrue}
use Rattle.std.specs.Int.{bit_at}
use Rattle.std.proofs.lemmas.Bool.{cases_lt}
use Rattle.std.proofs.lemmas.Nat.Bits.{bit_at_ones, bit_at_above, bit_at_cat_low, bit_at_cat_high}
use Rattle.risc_devices.specs.InputKind.{is_mouse}
use Rattle.risc_devices.specs.Laws.{HasBit, AreBitsOf, MouseLaw}

-- a number of k bits lies inside the mask of k bits
inside-ones : (k n : ℕ) → n < 2 ^ k → AreBitsOf (2 ^ k - 1) n
inside-ones k n fits i set =
    elim (cases_lt i k) [
      | inl low ↦ bit_at_ones k i low
      | inr high ↦ let none : bit_at n i ≡ 0 = bit_at_above n k i fits high in absurd (omega arith)
    ]

-- two parts inside the two parts of a mask
inside-parts : (k high low high_mask low_mask : ℕ) → low < 2 ^ k → low_mask < 2 ^ k → AreBitsOf high_mask high → AreBitsOf low_mask low → AreBitsOf (high_mask * 2 ^ k + low_mask) (high * 2 ^ k + low)
inside-parts k high low high_mask low_mask fits mask_fits upper lower i set =
    elim (cases_lt i k) [
      | inl below ↦ bit_at_cat_low high_mask k low_mask i below ∙ lower i (sym (bit_at_cat_low high k low i below) ∙ set)
      | inr above ↦ bit_at_cat_high high_mask k low_mask i mask_fits above ∙ upper (i - k) (sym (bit_at_cat_high high k low i fits above) ∙ set)
    ]

-- the mask consists of three masks, of 3, 10 and 10 bits
mouse-inside : (x y keys : ℕ) → x < 2 ^ 10 → y < 2 ^ 10 → keys < 2 ^ 3 → AreBitsOf 0x073FF3FF ((keys * 2 ^ 12 + y) * 2 ^ 12 + x)
mouse-inside x y keys hx hy hk =
    inside-parts 12 (keys * 2 ^ 12 + y) x (7 * 2 ^ 12 + 1023) 1023 (omega arith) (omega arith)
    (inside-parts 12 keys y 7 1023 (omega arith) (omega arith) (inside-ones 3 keys hk) (inside-ones 10 y hy))
    (inside-ones 10 x hx)

fields-inside : (word : ℕ) → IsTrue (is_mouse word) → (word < 2 ^ 32) × AreBitsOf 0x073FF3FF word
unfolding is_mouse
fields-inside word mouse =
    let x : word % 2 ^ 12 < 2 ^ 10 = grind arith in
    let y : word / 2 ^ 12 % 2 ^ 12 < 2 ^ 10 = grind arith in
    let keys : word / 2 ^ 24 < 2 ^ 3 = grind arith in
    let whole : (word / 2 ^ 24 * 2 ^ 12 + word / 2 ^ 12 % 2 ^ 12) * 2 ^ 12 + word % 2 ^ 12 ≡ word = omega arith in
    (omega arith, subst (AreBitsOf 0x073FF3FF) whole (mouse-inside (word % 2 ^ 12) (word / 2 ^ 12 % 2 ^ 12) (word / 2 ^ 24) x y keys))

-- a bit that is not in the mask
clear : (word i : ℕ) → AreBitsOf 0x073FF3FF word → 0x073FF3FF / 2 ^ i % 2 ≡ 0 → word / 2 ^ i % 2 ≡ 0
clear word i inside none =
    elim (cases_lt (word / 2 ^ i % 2) 1) [
      | inl low ↦ omega arith
      | inr high ↦ let set : HasBit 0x073FF3FF i = inside i (omega arith) in absurd (omega arith)
    ]

inside-fields : (word : ℕ) → word < 2 ^ 32 → AreBitsOf 0x073FF3FF word → IsTrue (is_mouse word)
unfolding is_mouse
inside-fields word fits inside =
    let b10 = clear word 10 inside refl in
    let b11 = clear word 11 inside refl in
    let b22 = clear word 22 inside refl in
    let b23 = clear word 23 inside refl in
    let b27 = clear word 27 inside refl in
    let b28 = clear word 28 inside refl in
    let b29 = clear word 29 inside refl in
    let b30 = clear word 30 inside refl in
    let b31 = clear word 31 inside refl in
    let x : word % 2 ^ 12 < 2 ^ 10 = omega arith in
    let y : word / 2 ^ 12 % 2 ^ 12 < 2 ^ 10 = omega arith in
    let keys : word / 2 ^ 24 < 2 ^ 3 = omega arith in
    grind arith

pub mouse_law-holds : MouseLaw
mouse_law-holds word = (fields-inside word, λ both. inside-fields word both.0 both.1)
