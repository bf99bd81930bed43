-- The rules of a checkpoint of a file, over its fields and its table as they are read.
use Rattle.oberon_format.proofs.Common.{[], ap, Bool, change_count, change_of, change_rules, CHANGES_AT, checkpoint_of, checkpoint_rules, CheckpointFields, checkpoints, count_before, each, Fault, field_rules, Fields, fields_of, first_broken, FIRST_VERSION, HasPageIds, if◌then◌else◌, word_since_2, length, List, Meets, nat_le, page_id_after, page_id_before, option_or, page_id_of, page_id_offset, page_id_rules, pages, slot_floor, PAGE_SLOTS, prior_page_id, refl, Rule, sent_below, slice_index, start, suc, sym, version, word_at, zero, zero_number, zero_numbers, ℕ, ◌++◌, ◌+◌, ◌<◌, ◌∙◌, ◌∷◌, ◌≡◌, ◌==◌, false, checkpoint_len}
use Rattle.oberon_format.proofs.ChangeLemmas.{after-same}
use Rattle.oberon_format.proofs.PartLemmas.{prior_more}
use Rattle.oberon_format.proofs.Room.{start_later}
use Rattle.oberon_format.proofs.RuleLemmas.{ChangedMet, each_holds, rules_whole, rules_changed, changed_met, is_first, is_later, first_append}
use Rattle.oberon_format.proofs.SameFields.{changes_same, same_append}
use Rattle.oberon_format.proofs.Walk.{change_inside}
use Rattle.oberon_format.specs.declared.fault.Fault.TheVariants as fault

-- the rules of page ids, of a size and of changes, as they are read
abbrev pub numbers_read : List ℕ → ℕ → ℕ → List (Rule Fault)
numbers_read bytes number offset = each PAGE_SLOTS (page_id_rules number offset (λ j. word_at bytes (page_id_offset offset j)))

abbrev pub size_read : List ℕ → ℕ → List (Rule Fault)
size_read bytes size = (nat_le size (length bytes), fault.Short (length bytes)) ∷ []

abbrev pub changes_read : List ℕ → ℕ → ℕ → ℕ → List ℕ → List (Rule Fault)
changes_read bytes number offset count table = each count (change_rules number offset (slice_index table) (change_of bytes offset))

-- the rules of a checkpoint of version 1, as its fields are read
pub whole_read : (bytes : List ℕ) (k offset before sent number : ℕ) (c : CheckpointFields) → version bytes ≡ FIRST_VERSION → offset ≡ start bytes k
    → before ≡ count_before (fields_of bytes) k → sent ≡ sent_below (fields_of bytes) k → number ≡ pages bytes → c ≡ checkpoint_of bytes offset
    → first_broken (checkpoint_rules (fields_of bytes) k) ≡ option_or (first_broken (field_rules offset k before sent c)) (first_broken (numbers_read bytes number offset))
whole_read bytes k offset before sent number c is at b s count same =
    let numbers : Bool → ℕ → ℕ = λ (x : Bool) (p : ℕ). if x then word_at bytes (page_id_offset (start bytes k) p) else page_id_before bytes (suc k) p in
    let fields : List (Rule Fault) = field_rules (start bytes k) k (count_before (fields_of bytes) k) (sent_below (fields_of bytes) k) (checkpoint_of bytes (start bytes k)) in
    ap (λ (xs : List (Rule Fault)). first_broken xs) (rules_whole (fields_of bytes) k is)
    ∙ ap (λ (x : Bool). first_broken (fields ++ each PAGE_SLOTS (page_id_rules (pages bytes) (start bytes k) (numbers x)))) (is_first (version bytes) is)
    ∙ rw (same, b, s, count, at) (first_append (field_rules (start bytes k) k (count_before (fields_of bytes) k) (sent_below (fields_of bytes) k) (checkpoint_of bytes (start bytes k))) (numbers_read bytes (pages bytes) (start bytes k)))

-- a word after the common fields of a checkpoint, by the version
pub later_first : (bytes : List ℕ) (offset : ℕ) → version bytes ≡ FIRST_VERSION → word_since_2 bytes offset ≡ 0
later_first bytes offset is = rw (is_first (version bytes) is) refl

pub later_second : (bytes : List ℕ) (offset : ℕ) → (version bytes == FIRST_VERSION) ≡ false → word_since_2 bytes offset ≡ word_at bytes offset
later_second bytes offset is = rw (is_later (version bytes) is) refl

-- the page ids of a checkpoint, by the version
pub number_first : (bytes : List ℕ) (k p : ℕ) → version bytes ≡ FIRST_VERSION → page_id_of bytes k p ≡ word_at bytes (page_id_offset (start bytes k) p)
number_first bytes k p is = rw (is_first (version bytes) is) refl

pub number_second : (bytes : List ℕ) (k p : ℕ) → (version bytes == FIRST_VERSION) ≡ false → page_id_of bytes k p ≡ page_id_before bytes (suc k) p
number_second bytes k p is = rw (is_later (version bytes) is) refl

-- those before checkpoint 0
pub numbers_none : (bytes : List ℕ) → HasPageIds zero_numbers (page_id_before bytes 0)
unfolding page_id_before
numbers_none bytes p lt = zero_number p

-- the table before checkpoint 0
pub prior_none : (f : Fields) → HasPageIds zero_numbers (prior_page_id f 0)
prior_none f p lt = zero_number p

-- the table before checkpoint k of version 2 or 3
pub prior_is : (bytes : List ℕ) (k p : ℕ) → (version bytes == FIRST_VERSION) ≡ false → prior_page_id (fields_of bytes) k p ≡ page_id_before bytes k p
unfolding page_id_before
prior_is bytes zero p is = refl
prior_is bytes (suc k) p is = prior_more (fields_of bytes) k p ∙ number_second bytes k p is

-- the rules of a checkpoint of a later version, as its fields and its changes are read after the table before
pub changed_read : (bytes : List ℕ) (k offset before sent number : ℕ) (c : CheckpointFields) (table : List ℕ) → (version bytes == FIRST_VERSION) ≡ false → offset ≡ start bytes k
    → before ≡ count_before (fields_of bytes) k → sent ≡ sent_below (fields_of bytes) k → number ≡ pages bytes → c ≡ checkpoint_of bytes offset
    → HasPageIds table (page_id_before bytes k) → first_broken (checkpoint_rules (fields_of bytes) k)
    ≡ option_or (first_broken (size_read bytes (offset + CHANGES_AT))) (option_or (first_broken (field_rules offset k before sent c))
    (option_or (first_broken (size_read bytes (offset + checkpoint_len (version bytes) c.changes))) (first_broken (changes_read bytes number offset c.changes table))))
changed_read bytes k offset before sent number c table is at b s count same has =
    let at_k = start bytes k in let n = change_count bytes at_k in
    let read = changes_read bytes (pages bytes) at_k n table in
    let fields : List (Rule Fault) = field_rules at_k k (count_before (fields_of bytes) k) (sent_below (fields_of bytes) k) (checkpoint_of bytes at_k) in
    let front = size_read bytes (at_k + CHANGES_AT) ++ fields in
    let changes = changes_same (pages bytes) at_k n (prior_page_id (fields_of bytes) k) (slice_index table) (change_of bytes at_k) (change_of bytes at_k)
    (λ p lt. prior_is bytes k p is ∙ sym (has p lt)) (λ i lt. refl) in
    ap (λ (xs : List (Rule Fault)). first_broken xs) (rules_changed (fields_of bytes) k is)
    ∙ same_append (front ++ size_read bytes (start bytes (suc k))) (front ++ size_read bytes (start bytes (suc k))) (each n (change_rules (pages bytes) at_k (prior_page_id (fields_of bytes) k) (change_of bytes at_k))) read refl changes
    ∙ ap (λ (end : ℕ). first_broken (front ++ size_read bytes end ++ read)) (start_later bytes k at_k n is refl refl)
    ∙ rw (same, b, s, count, at) (parts (size_read bytes (at_k + CHANGES_AT)) fields (size_read bytes (at_k + checkpoint_len (version bytes) n)) read)
  where
    parts : (xs ys zs ws : List (Rule Fault)) → first_broken (xs ++ (ys ++ (zs ++ ws))) ≡ option_or (first_broken xs) (option_or (first_broken ys) (option_or (first_broken zs) (first_broken ws)))
    parts xs ys zs ws =
        first_append xs (ys ++ (zs ++ ws))
        ∙ ap (option_or (first_broken xs)) (first_append ys (zs ++ ws) ∙ ap (option_or (first_broken ys)) (first_append zs ws))

-- the changes of checkpoint k make the table before it its own
pub numbers_next : (bytes : List ℕ) (k offset count : ℕ) (before after : List ℕ) → offset ≡ start bytes k → count ≡ change_count bytes offset → HasPageIds before (page_id_before bytes k)
    → HasPageIds after (page_id_after (change_of bytes offset) (slice_index before) count) → HasPageIds after (page_id_before bytes (suc k))
unfolding page_id_before
numbers_next bytes k offset count before after at many has made p lt =
    made p lt ∙ ap (λ (n : ℕ). page_id_after (change_of bytes offset) (slice_index before) n p) many
    ∙ ap (λ (q : ℕ). page_id_after (change_of bytes q) (slice_index before) (change_count bytes q) p) at
    ∙ after-same (change_of bytes (start bytes k)) (change_of bytes (start bytes k)) (slice_index before) (page_id_before bytes k) (change_count bytes (start bytes k)) p (λ i less. refl) (has p lt)

-- the changes of a checkpoint that breaks no rule are lawful
pub checkpoint_changed : (bytes : List ℕ) (k : ℕ) → Meets bytes → k < checkpoints bytes → (version bytes == FIRST_VERSION) ≡ false → ChangedMet (fields_of bytes) k
checkpoint_changed bytes k meets lt is = changed_met (fields_of bytes) k is (each_holds (checkpoint_rules (fields_of bytes)) (checkpoints bytes) k lt meets.checkpoints_meet)

pub slots_inside : (bytes : List ℕ) (k : ℕ) → Meets bytes → k < checkpoints bytes → (version bytes == FIRST_VERSION) ≡ false → (i : ℕ) → i < change_count bytes (start bytes k) → (change_of bytes (start bytes k) i).slot < PAGE_SLOTS
slots_inside bytes k meets lt is i few =
    let met = checkpoint_changed bytes k meets lt is in
    change_inside (pages bytes) (slot_floor (change_of bytes (start bytes k)) i) (prior_page_id (fields_of bytes) k) (change_of bytes (start bytes k) i) (met.each_change i few)
