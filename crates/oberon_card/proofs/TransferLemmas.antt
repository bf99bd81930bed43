-- The cases of a transfer.
use Rattle.std.proofs.Common.{◌≡◌, ℕ, ◌+◌, ◌*◌, ◌^◌, true, false, List, [], get_or, refl, sym, w32}
use Rattle.std.specs.Int.{to_le_bytes}
use Rattle.oberon_card.specs.CardState.{CardState}
use Rattle.oberon_card.specs.Exchange.{said, exchanged}
use Rattle.oberon_card.specs.Transfer.{exchanges, said_in_four, is_selected, is_fast, served, transferred, answer_of}

pub idle_after : (control value : ℕ) (s : CardState) → is_selected control ≡ false
    → record (served s) { command = [] } ≡ transferred control value s
unfolding transferred
idle_after control value s idle = sym (rw idle refl)

pub idle_answer : (control value : ℕ) (s : CardState) → is_selected control ≡ false → 255 ≡ answer_of control value s
unfolding answer_of
idle_answer control value s idle = sym (rw idle refl)

pub slow_after : (control value : ℕ) (bytes : List ℕ) (s : CardState) → bytes ≡ to_le_bytes w32 value
    → is_selected control ≡ true → is_fast control ≡ false
    → exchanged (get_or bytes 0 0) (served s) ≡ transferred control value s
unfolding transferred exchanges
slow_after control value bytes s are selected slow = rw are (sym (rw selected (rw slow refl)))

pub slow_answer : (control value : ℕ) (s : CardState) → is_selected control ≡ true → is_fast control ≡ false
    → said (served s) ≡ answer_of control value s
unfolding answer_of
slow_answer control value s selected slow = sym (rw selected (rw slow refl))

pub fast_after : (control value : ℕ) (bytes : List ℕ) (s : CardState) → bytes ≡ to_le_bytes w32 value
    → is_selected control ≡ true → is_fast control ≡ true
    → exchanged (get_or bytes 3 0) (exchanged (get_or bytes 2 0) (exchanged (get_or bytes 1 0) (exchanged (get_or bytes 0 0) (served s)))) ≡ transferred control value s
unfolding transferred exchanges
fast_after control value bytes s are selected fast = rw are (sym (rw selected (rw fast refl)))

pub fast_answer : (control value : ℕ) (bytes : List ℕ) (s : CardState) → bytes ≡ to_le_bytes w32 value
    → is_selected control ≡ true → is_fast control ≡ true
    → said (served s) + said (exchanged (get_or bytes 0 0) (served s)) * 2 ^ 8
    + said (exchanged (get_or bytes 1 0) (exchanged (get_or bytes 0 0) (served s))) * 2 ^ 16
    + said (exchanged (get_or bytes 2 0) (exchanged (get_or bytes 1 0) (exchanged (get_or bytes 0 0) (served s)))) * 2 ^ 24
    ≡ answer_of control value s
unfolding answer_of said_in_four exchanges
fast_answer control value bytes s are selected fast = rw are (sym (rw selected (rw fast refl)))

-- a word of four bytes that are known
pub four : (a b c d p q r s : ℕ) → a ≡ p → b ≡ q → c ≡ r → d ≡ s
    → a + b * 2 ^ 8 + c * 2 ^ 16 + d * 2 ^ 24 ≡ p + q * 2 ^ 8 + r * 2 ^ 16 + s * 2 ^ 24
four a b c d p q r s is is' is'' is''' = rw is (rw is' (rw is'' (rw is''' refl)))
