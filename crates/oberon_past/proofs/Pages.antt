-- A page of a memory, read word by word.
use Rattle.std.proofs.Common.{◌≡◌, ℕ, ◌+◌, ◌*◌, ◌<◌, ◌≤◌, ◌∙◌, List, arith, drop, get_or, length, length-drop, length-take-le, subst, sym, take, take_all}
use Rattle.std.proofs.lemmas.Grind.{same_number_lists}
use Rattle.std.proofs.lemmas.List.{get_or-drop, get_or-take}
use Rattle.risc_pages.specs.Pages.{page_at}

pub page-read : (memory words : List ℕ) (slot : ℕ) → length memory ≡ 262144 → slot < 1024 → length words ≡ 256
    → ((k d : ℕ) → k < 256 → get_or words k d ≡ get_or memory (256 * slot + k) 0) → words ≡ page_at memory slot
unfolding page_at
page-read memory words slot whole inside len each =
    let room : 256 ≤ length (drop (256 * slot) memory) = omega (arith, length-drop (256 * slot) memory) in
    same_number_lists words (take 256 (drop (256 * slot) memory)) (len ∙ sym (length-take-le 256 (drop (256 * slot) memory) room))
    (λ k lt.
    let low : k < 256 = omega arith in
    each k 0 low ∙ sym (get_or-take 256 (drop (256 * slot) memory) k 0 low ∙ get_or-drop (256 * slot) memory k 0))

-- all words of a list
pub all-words : (xs ys : List ℕ) (n : ℕ) → xs ≡ take n ys → length ys ≡ n → xs ≡ ys
all-words xs ys n is len = is ∙ take_all n ys (omega (arith, len))

pub all-long : (xs ys : List ℕ) (n : ℕ) → xs ≡ take n ys → length ys ≡ n → length xs ≡ n
all-long xs ys n is len = subst (λ (l : List ℕ). length l ≡ n) (sym (all-words xs ys n is len)) len
