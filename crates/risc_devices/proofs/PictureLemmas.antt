-- The bits of a byte of a picture.
use Rattle.std.proofs.Common.{◌≡◌, ℕ, zero, suc, ◌+◌, ◌-◌, ◌*◌, ◌/◌, ◌%◌, ◌^◌, ◌<◌, List, ap, sym, ◌∙◌, pow-add, get_or, inl, inr, arith, w8}
use Rattle.std.specs.Prelude.{length, take, slice_index}
use Rattle.std.specs.Int.{reverse_bits, reverse_bits_onto}
use Rattle.std.proofs.Math.Nat.{div-div-eq-div-mul}
use Rattle.std.proofs.lemmas.List.{get_or-take, ext_get_or}
use Rattle.std.proofs.lemmas.Bool.{cases_lt}
use Rattle.risc_devices.specs.Picture.{HasDots, IsPicture}

-- a byte with its bits reversed
reversed_bit : (n j : ℕ) → j < 8 → reverse_bits w8 n / 2 ^ (7 - j) % 2 ≡ n / 2 ^ j % 2
unfolding reverse_bits_onto
reversed_bit n zero below = omega arith
reversed_bit n (suc zero) below = omega arith
reversed_bit n (suc (suc zero)) below = omega arith
reversed_bit n (suc (suc (suc zero))) below = omega arith
reversed_bit n (suc (suc (suc (suc zero)))) below = omega arith
reversed_bit n (suc (suc (suc (suc (suc zero))))) below = omega arith
reversed_bit n (suc (suc (suc (suc (suc (suc zero)))))) below = omega arith
reversed_bit n (suc (suc (suc (suc (suc (suc (suc zero))))))) below = omega arith
reversed_bit n (suc (suc (suc (suc (suc (suc (suc (suc j)))))))) below = absurd (omega arith)

-- the low byte has the low bits
low_bit : (n j : ℕ) → j < 8 → n % 256 / 2 ^ j % 2 ≡ n / 2 ^ j % 2
low_bit n zero below = omega arith
low_bit n (suc zero) below = omega arith
low_bit n (suc (suc zero)) below = omega arith
low_bit n (suc (suc (suc zero))) below = omega arith
low_bit n (suc (suc (suc (suc zero)))) below = omega arith
low_bit n (suc (suc (suc (suc (suc zero))))) below = omega arith
low_bit n (suc (suc (suc (suc (suc (suc zero)))))) below = omega arith
low_bit n (suc (suc (suc (suc (suc (suc (suc zero))))))) below = omega arith
low_bit n (suc (suc (suc (suc (suc (suc (suc (suc j)))))))) below = absurd (omega arith)

-- bit j of a word's byte from bit s on
byte_bit : (word s j : ℕ) → j < 8 → reverse_bits w8 (word / 2 ^ s % 256) / 2 ^ (7 - j) % 2 ≡ word / 2 ^ (s + j) % 2
byte_bit word s j below =
    reversed_bit (word / 2 ^ s % 256) j below
    ∙ (low_bit (word / 2 ^ s) j below
    ∙ ap (λ d. d % 2) (div-div-eq-div-mul word (2 ^ s) (2 ^ j) ∙ ap (λ m. word / m) (sym (pow-add 2 s j))))

-- the byte that is cut out of a word and reversed has the dots of its position
pub byte-HasDots : (words : List ℕ) (row col : ℕ) → HasDots words row col (reverse_bits w8 (slice_index words (32 * (767 - row) + col / 4) / 2 ^ (8 * (col % 4)) % 256))
byte-HasDots words row col j below =
    let at : (8 * col + j) / 32 ≡ col / 4 = omega arith in
    let bit : (8 * col + j) % 32 ≡ 8 * (col % 4) + j = omega arith in
    rw (at, bit) (byte_bit _ (8 * (col % 4)) j below)

-- numbers with the same half and the same lowest bit are equal
same_double : (a b : ℕ) → a / 2 ≡ b / 2 → a % 2 ≡ b % 2 → a ≡ b
same_double a b half bit = omega arith

next_bit : (a b m : ℕ) → a / (m * 2) ≡ b / (m * 2) → a / m % 2 ≡ b / m % 2 → a / m ≡ b / m
next_bit a b m high bit =
    same_double (a / m) (b / m) (div-div-eq-div-mul a m 2 ∙ (high ∙ sym (div-div-eq-div-mul b m 2))) bit

-- a byte is determined by its bits
same_byte : (a b : ℕ) → a < 256 → b < 256 → ((j : ℕ) → j < 8 → a / 2 ^ (7 - j) % 2 ≡ b / 2 ^ (7 - j) % 2) → a ≡ b
same_byte a b fits_a fits_b bits =
    let s0 : a / 256 ≡ b / 256 = omega arith in
    let s1 : a / 128 ≡ b / 128 = next_bit a b 128 s0 (bits 0 (omega arith)) in
    let s2 : a / 64 ≡ b / 64 = next_bit a b 64 s1 (bits 1 (omega arith)) in
    let s3 : a / 32 ≡ b / 32 = next_bit a b 32 s2 (bits 2 (omega arith)) in
    let s4 : a / 16 ≡ b / 16 = next_bit a b 16 s3 (bits 3 (omega arith)) in
    let s5 : a / 8 ≡ b / 8 = next_bit a b 8 s4 (bits 4 (omega arith)) in
    let s6 : a / 4 ≡ b / 4 = next_bit a b 4 s5 (bits 5 (omega arith)) in
    let s7 : a / 2 ≡ b / 2 = next_bit a b 2 s6 (bits 6 (omega arith)) in
    let lowest : a / 1 % 2 ≡ b / 1 % 2 = bits 7 (omega arith) in
    omega arith

-- lists of one length are equal if their prefixes and the items after these are
same_after : (n : ℕ) (xs ys : List ℕ) → length xs ≡ length ys → take n xs ≡ take n ys → ((k : ℕ) → n + k < length xs → slice_index xs (n + k) ≡ slice_index ys (n + k)) → xs ≡ ys
same_after n xs ys lengths prefixes rests =
    ext_get_or 0 xs ys lengths (λ i below. elim (cases_lt i n) as (λ _. get_or xs i 0 ≡ get_or ys i 0) [
      | inl inside ↦ sym (get_or-take n xs i 0 inside) ∙ (ap (λ l. get_or l i 0) prefixes ∙ get_or-take n ys i 0 inside)
      | inr beyond ↦
          let e : n + (i - n) ≡ i = omega arith in
          let there : n + (i - n) < length xs = omega arith in
          rw e at (rests (i - n) there)
    ])

-- a display has one picture
pub same_picture : (words a b : List ℕ) → IsPicture words a → IsPicture words b → a ≡ b
same_picture words a b pa pb =
    same_after 12 a b (pa.len ∙ sym pb.len) (pa.head ∙ sym pb.head) (λ k below.
    let e : length a ≡ 98316 = pa.len in
    let f : length b ≡ 98316 = pb.len in
    let at : 128 * (k / 128) + k % 128 ≡ k = omega arith in
    let row : k / 128 < 768 = omega arith in
    let col : k % 128 < 128 = omega arith in
    let in_a : 12 + k < length a = omega arith in
    let in_b : 12 + k < length b = omega arith in
    let dots_a : HasDots words (k / 128) (k % 128) (slice_index a (12 + k)) = rw at at (pa.dots (k / 128) (k % 128) row col) in
    let dots_b : HasDots words (k / 128) (k % 128) (slice_index b (12 + k)) = rw at at (pb.dots (k / 128) (k % 128) row col) in
    same_byte (slice_index a (12 + k)) (slice_index b (12 + k)) (pa.bytes_fit (12 + k) 0 in_a) (pb.bytes_fit (12 + k) 0 in_b)
    (λ j below. dots_a j below ∙ sym (dots_b j below)))
