-- The keys of a checkpoint, with zeros after them, and the output of all checkpoints.
use Rattle.oberon_format.proofs.Common.{[], ap, are_keys, arith, between_to_end, CHANGES_AT, checkpoint_of, CheckpointParts, checkpoints, drop, drop-drop, drop-take, eqb, eqb-true, flat_map_more, KEYS_AT, leb-true, length, length-between, List, list_all, MAX_KEYS, Meets, nat_le, output_of, output_offset, refl, replicate, SENT_AT, slice_range, start, subst, sym, take, take-add, total, true, WAITING_AT, word_at, ℕ, ◌++◌, ◌+◌, ◌-◌, ◌<◌, ◌∙◌, ◌∷◌, ◌≡◌, ◌≤◌}
use Rattle.oberon_format.proofs.RuleLemmas.{and_left, and_right, output_below, output_below_more, rises}

-- bytes that are all 0
pub zeros-are : (xs : List ℕ) → list_all (λ b. eqb b 0) xs ≡ true → xs ≡ replicate (length xs) 0
zeros-are [] h = refl
zeros-are (x ∷ xs) h =
    let first = eqb-true x 0 (and_left (eqb x 0) (list_all (λ b. eqb b 0) xs) h) in
    let rest = zeros-are xs (and_right (eqb x 0) (list_all (λ b. eqb b 0) xs) h) in
    cc

-- two parts of a list that follow each other
pub range-split : (xs : List ℕ) (a b c : ℕ) → a ≤ b → b ≤ c → slice_range xs a c ≡ slice_range xs a b ++ slice_range xs b c
range-split xs a b c ab bc =
    let sum : c - a ≡ b - a + (c - b) = omega arith in let from : a + (b - a) ≡ b = omega arith in
    ap (λ (k : ℕ). take k (drop a xs)) sum ∙ take-add (b - a) (c - b) (drop a xs)
    ∙ ap (λ (ys : List ℕ). take (b - a) (drop a xs) ++ take (c - b) ys) (drop-drop (b - a) a xs ∙ ap (λ (k : ℕ). drop k xs) from)

-- the end of a part of a list
range-drop : (xs : List ℕ) (a n c : ℕ) → a + n ≤ c → drop n (slice_range xs a c) ≡ slice_range xs (a + n) c
range-drop xs a n c le =
    let sum : c - a ≡ n + (c - (a + n)) = omega arith in
    ap (λ (k : ℕ). drop n (take k (drop a xs))) sum ∙ drop-take n (c - (a + n)) (drop a xs) ∙ ap (take (c - (a + n))) (drop-drop n a xs)

pub keys-are_at : (bytes : List ℕ) (offset : ℕ) → offset + CHANGES_AT ≤ length bytes → are_keys (checkpoint_of bytes offset) ≡ true
    → slice_range bytes (offset + KEYS_AT) (offset + SENT_AT) ≡ slice_range bytes (offset + KEYS_AT) (offset + KEYS_AT + word_at bytes (offset + WAITING_AT)) ++ replicate (MAX_KEYS - word_at bytes (offset + WAITING_AT)) 0
keys-are_at bytes offset room h =
    let n = word_at bytes (offset + WAITING_AT) in
    let few : n ≤ MAX_KEYS = leb-true n MAX_KEYS (and_left _ _ h) in
    let rest : drop n (slice_range bytes (offset + KEYS_AT) (offset + SENT_AT)) ≡ slice_range bytes (offset + KEYS_AT + n) (offset + SENT_AT) = range-drop bytes (offset + KEYS_AT) n (offset + SENT_AT) (omega arith) in
    let zeros = zeros-are (slice_range bytes (offset + KEYS_AT + n) (offset + SENT_AT)) (subst (λ (l : List ℕ). list_all (λ b. eqb b 0) l ≡ true) rest (and_right (nat_le n MAX_KEYS) _ h)) in
    let len : length (slice_range bytes (offset + KEYS_AT + n) (offset + SENT_AT)) ≡ MAX_KEYS - n = length-between bytes (offset + KEYS_AT + n) (offset + SENT_AT) (omega arith) ∙ omega arith in
    range-split bytes (offset + KEYS_AT) (offset + KEYS_AT + n) (offset + SENT_AT) (omega arith) (omega arith)
    ∙ ap (λ (r : List ℕ). slice_range bytes (offset + KEYS_AT) (offset + KEYS_AT + n) ++ r) (zeros ∙ ap (λ (m : ℕ). replicate m 0) len)

pub output_below_le : (bytes : List ℕ) (i n : ℕ) → i ≤ n → output_below bytes i ≤ output_below bytes n
unfolding total
output_below_le bytes = rises (output_below bytes) (λ k. omega arith)

pub output_of_push : (cs : List CheckpointParts) (c : CheckpointParts) → output_of (cs ++ c ∷ []) ≡ output_of cs ++ c.sent
output_of_push cs c = sym (flat_map_more (λ (x : CheckpointParts). x.sent) [] cs c)

pub output_fits : (bytes : List ℕ) (k : ℕ) → Meets bytes → k < checkpoints bytes → output_offset bytes + output_below bytes k + word_at bytes (start bytes k + SENT_AT) ≤ length bytes
output_fits bytes k meets lt = omega (arith, output_below_more bytes k, output_below_le bytes (k + 1) (checkpoints bytes) (omega arith), meets.len_is)

pub output_more : (bytes : List ℕ) (k from : ℕ) (cs : List CheckpointParts) (c : CheckpointParts) → Meets bytes → k < checkpoints bytes → from ≡ output_offset bytes + output_below bytes k
    → slice_range bytes (output_offset bytes) from ≡ output_of cs → c.sent ≡ slice_range bytes from (from + word_at bytes (start bytes k + SENT_AT))
    → slice_range bytes (output_offset bytes) (from + word_at bytes (start bytes k + SENT_AT)) ≡ output_of (cs ++ c ∷ [])
output_more bytes k from cs c meets lt is so_far sent =
    let n = word_at bytes (start bytes k + SENT_AT) in
    range-split bytes (output_offset bytes) from (from + n) (omega arith) (omega arith) ∙ ap (λ (l : List ℕ). l ++ slice_range bytes from (from + n)) so_far
    ∙ ap (λ (l : List ℕ). output_of cs ++ l) (sym sent) ∙ sym (output_of_push cs c)

-- all output, after every checkpoint is read
pub output_all : (bytes : List ℕ) (k from : ℕ) (cs : List CheckpointParts) → Meets bytes → k ≡ checkpoints bytes → from ≡ output_offset bytes + output_below bytes k
    → slice_range bytes (output_offset bytes) from ≡ output_of cs → drop (output_offset bytes) bytes ≡ output_of cs
output_all bytes k from cs meets is at so_far =
    sym (between_to_end bytes (output_offset bytes) from (omega (arith, ap (output_below bytes) is, meets.len_is))) ∙ so_far
