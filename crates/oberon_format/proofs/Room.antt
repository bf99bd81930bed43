-- How far the parts of a file reach.
use Rattle.oberon_format.proofs.Common.{add-one, ap, arith, change_count, CHANGE_LEN, change_offset, CHANGES_AT, CHECKPOINT_LEN, checkpoint_len, checkpoints, event_offset, events, fields_of, FIRST_VERSION, inl, inr, IsSized, length, List, Meets, named_len, nat_tests, refl, start, suc, version, zero, ℕ, ◌*◌, ◌+◌, ◌<◌, ◌∙◌, ◌≡◌, ◌≤◌, ◌==◌, false, disk_len, sym}
use Rattle.oberon_format.proofs.RuleLemmas.{version_cases, is_first, is_later, rises}

-- a checkpoint of each version has the common fields, and at least three more numbers
pub size_least : (v n : ℕ) → CHANGES_AT ≤ checkpoint_len v n
size_least v n = grind (arith, nat_tests)

-- by the version
pub size_first : (v n : ℕ) → v ≡ FIRST_VERSION → checkpoint_len v n ≡ CHECKPOINT_LEN
size_first v n is = rw (is_first v is) refl

pub size_later : (v n : ℕ) → (v == FIRST_VERSION) ≡ false → checkpoint_len v n ≡ CHANGES_AT + CHANGE_LEN * n + disk_len v
size_later v n is = rw (is_later v is) refl

pub start_none : (bytes : List ℕ) → start bytes 0 ≡ event_offset bytes (events bytes)
unfolding start
start_none bytes = refl

pub start_next : (bytes : List ℕ) (k : ℕ) → start bytes (suc k) ≡ start bytes k + checkpoint_len (version bytes) (change_count bytes (start bytes k))
unfolding start
start_next bytes k = refl

-- checkpoints follow one another
pub start_le : (bytes : List ℕ) (i n : ℕ) → i ≤ n → start bytes i ≤ start bytes n
start_le bytes = rises (start bytes) (λ k. let next = start_next bytes k in omega arith)

-- all those of version 1 have one length
start_first : (bytes : List ℕ) (k : ℕ) → version bytes ≡ FIRST_VERSION → start bytes k ≡ start bytes 0 + CHECKPOINT_LEN * k
start_first bytes zero is = omega arith
start_first bytes (suc k) is = omega (arith, start_first bytes k is, start_next bytes k, size_first (version bytes) (change_count bytes (start bytes k)) is)

-- the offset of the next one, by the length of this one
pub offset_next : (bytes : List ℕ) (k offset n size : ℕ) → offset ≡ start bytes k → n ≡ change_count bytes offset → size ≡ checkpoint_len (version bytes) n → offset + size ≡ start bytes (k + 1)
offset_next bytes k offset n size at many is = omega (arith, ap (start bytes) (add-one k) ∙ start_next bytes k, is ∙ ap (checkpoint_len (version bytes)) (many ∙ ap (change_count bytes) at))

-- in a later version, by the number of changes
pub start_later : (bytes : List ℕ) (k offset n : ℕ) → (version bytes == FIRST_VERSION) ≡ false → offset ≡ start bytes k → n ≡ change_count bytes offset → start bytes (suc k) ≡ offset + checkpoint_len (version bytes) n
start_later bytes k offset n is at many =
    start_next bytes k ∙ (λ i. sym at i + checkpoint_len (version bytes) (sym (many ∙ ap (change_count bytes) at) i))

-- the length that the header asks for, by the version
pub named_first : (bytes : List ℕ) → version bytes ≡ FIRST_VERSION → named_len (fields_of bytes) ≡ start bytes 0 + CHECKPOINT_LEN * checkpoints bytes
named_first bytes is = let test = is_first (version bytes) is in rw test (start_first bytes (checkpoints bytes) is)

named_later : (bytes : List ℕ) → (version bytes == FIRST_VERSION) ≡ false → named_len (fields_of bytes) ≡ start bytes 0
named_later bytes is = let test = is_later (version bytes) is in rw test refl

-- the events are there
pub events_there : (bytes : List ℕ) → IsSized bytes → event_offset bytes (events bytes) ≤ length bytes
events_there bytes sized =
    let none = start_none bytes in let long = sized.long in
    elim (version_cases (version bytes) sized.known) [
      | inl first ↦ let named = named_first bytes first in omega arith
      | inr later ↦ let named = named_later bytes later in omega arith
    ]

-- and in version 1 each checkpoint
pub whole_room : (bytes : List ℕ) (k : ℕ) → IsSized bytes → k < checkpoints bytes → version bytes ≡ FIRST_VERSION → start bytes k + CHECKPOINT_LEN ≤ length bytes
whole_room bytes k sized lt is =
    omega (arith, start_le bytes (suc k) (checkpoints bytes) (omega arith), start_first bytes (suc k) is, start_first bytes k is, start_first bytes (checkpoints bytes) is, sized.long, named_first bytes is)

-- and each checkpoint of each version, in a file that breaks no rule
pub checkpoint_there : (bytes : List ℕ) (k : ℕ) → Meets bytes → k < checkpoints bytes → start bytes k + checkpoint_len (version bytes) (change_count bytes (start bytes k)) ≤ length bytes
checkpoint_there bytes k meets lt = omega (arith, start_le bytes (suc k) (checkpoints bytes) (omega arith), start_next bytes k, meets.len_is)

pub common_there : (bytes : List ℕ) (k : ℕ) → Meets bytes → k < checkpoints bytes → start bytes k + CHANGES_AT ≤ length bytes
common_there bytes k meets lt = omega (arith, checkpoint_there bytes k meets lt, size_least (version bytes) (change_count bytes (start bytes k)))

-- the whole of a checkpoint of version 1
pub whole_there : (bytes : List ℕ) (k : ℕ) → Meets bytes → k < checkpoints bytes → version bytes ≡ FIRST_VERSION → start bytes k + CHECKPOINT_LEN ≤ length bytes
whole_there bytes k meets lt is = whole_room bytes k meets.sized lt is

-- the changes of one of a later version, and the disk's answer
pub changes_there : (bytes : List ℕ) (k : ℕ) → Meets bytes → k < checkpoints bytes → (version bytes == FIRST_VERSION) ≡ false → change_offset (start bytes k) (change_count bytes (start bytes k)) + disk_len (version bytes) ≤ length bytes
changes_there bytes k meets lt is = omega (arith, checkpoint_there bytes k meets lt, size_later (version bytes) (change_count bytes (start bytes k)) is)
