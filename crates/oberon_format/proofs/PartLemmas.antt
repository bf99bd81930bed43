-- The fields of parts, member by member, at the offsets of their checkpoints, and the sums of their outputs.
use Rattle.oberon_format.proofs.Common.{[], add-one, ap, arith, CHANGE_LEN, changes, CHANGES_AT, changes_in, checkpoint_at, checkpoint_len, CheckpointParts, count_before, end_rules, eq-eqb, Event, event_fields, event_start, false, Fields, fields_in, first_broken, get_or, get_or-map, le-leb, length, length-append, List, nat_le, nat_tests, ne_eqb, no_checkpoint, no_event, None, output_of, PAGE_SLOTS, prior_page_id, RecordingParts, refl, sent_below, slice_index, slice_index_or, start_in, suc, sym, table_before, total, true, VERSION_WITH_DISK, file_len, zero, zero_number, ℕ, ◌*◌, ◌+◌, ◌-◌, ◌<◌, ◌==◌, ◌∙◌, ◌∷◌, ◌≡◌, ◌≤◌, Bool, cond, disk_len, DISK_LEN, FIRST_VERSION, if◌then◌else◌, LONGEST_RECORDING, LONGEST_WITH_DISK, MAX_CHECKPOINTS, max_events, MAX_EVENTS, MAX_EVENTS_WITH_DISK, MAX_OUTPUT, MAX_PAGES}
use Rattle.oberon_format.proofs.ChangeLemmas.{changes_few}
use Rattle.oberon_format.proofs.RuleLemmas.{rises}

-- a member at its index
pub member : {X : Type 0} (xs : List X) (i : ℕ) → i < length xs → X
member [] i lt = absurd (omega arith)
member (x ∷ xs) zero lt = x
member (x ∷ xs) (suc i) lt = member xs i (omega arith)

-- an event of parts has its fields
pub event_here : (v : ℕ) (r : RecordingParts) (i : ℕ) (e : Event) → i < length r.inputs → (fields_in v r).event i ≡ event_fields (get_or r.inputs i e)
event_here v r i e lt = get_or-map event_fields r.inputs i e no_event lt

-- what comes before each checkpoint but the first
pub before_next : (f : Fields) (k : ℕ) → count_before f (suc k) ≡ (f.checkpoint k).count
before_next f k = grind (arith, nat_tests)

pub prior_more : (f : Fields) (k p : ℕ) → prior_page_id f (suc k) p ≡ f.page_id k p
prior_more f k p = grind (arith, nat_tests)

-- the table before each checkpoint but the first is that of the one before
pub table_next : (cs : List CheckpointParts) (k : ℕ) → table_before cs (suc k) ≡ (slice_index_or cs k no_checkpoint).table
table_next cs k =
    let later : (suc k == 0) ≡ false = ne_eqb (suc k) 0 (λ e. omega arith) in let back : suc k - 1 ≡ k = omega arith in
    rw (later, back) refl

-- the page ids before a checkpoint of parts are those of the table before it
pub prior_encoded : (v : ℕ) (r : RecordingParts) (k p : ℕ) → p < PAGE_SLOTS → prior_page_id (fields_in v r) k p ≡ slice_index (table_before r.checkpoints k) p
prior_encoded v r zero p lt = sym (zero_number p)
prior_encoded v r (suc k) p lt = prior_more (fields_in v r) k p ∙ ap (λ (table : List ℕ). slice_index table p) (sym (table_next r.checkpoints k))

-- the output before a checkpoint
pub sent_none : (f : Fields) → sent_below f 0 ≡ 0
unfolding total
sent_none f = refl

pub sent_more : (f : Fields) (k : ℕ) → sent_below f (k + 1) ≡ sent_below f k + (f.checkpoint k).output
unfolding total
sent_more f k = rw (add-one k) refl

-- a sum grows with its length
pub total_rises : (f : ℕ → ℕ) (k n : ℕ) → k ≤ n → total f k ≤ total f n
unfolding total
total_rises f = rises (total f) (λ k. omega arith)

-- a checkpoint has at most as many changes as a table has slots
pub changes_in_few : (v : ℕ) (before : List ℕ) (c : CheckpointParts) → changes_in v before c ≤ PAGE_SLOTS
changes_in_few v before c = let few = changes_few before c.table in grind arith

-- and so it is at most this long
pub size_few : (v changes : ℕ) → changes ≤ PAGE_SLOTS → checkpoint_len v changes ≤ CHANGES_AT + CHANGE_LEN * PAGE_SLOTS + disk_len v
size_few v changes few = go (v == FIRST_VERSION) refl
  where
    go : (b : Bool) → (v == FIRST_VERSION) ≡ b → checkpoint_len v changes ≤ CHANGES_AT + CHANGE_LEN * PAGE_SLOTS + disk_len v
    go true is = rw is (omega arith)
    go false is = rw is (omega arith)

pub disk_few : (v : ℕ) → disk_len v ≤ DISK_LEN
disk_few v = go (v == VERSION_WITH_DISK)
  where
    go : (b : Bool) → cond b DISK_LEN 0 ≤ DISK_LEN
    go true = omega arith
    go false = omega arith

-- how far checkpoints of a version reach at most from the offset of the first, if each changes every slot
unfoldable pub most : ℕ → ℕ → ℕ → ℕ
most v from zero = from
most v from (suc k) = most v from k + (CHANGES_AT + CHANGE_LEN * PAGE_SLOTS + disk_len v)

pub most_none : (v from : ℕ) → most v from 0 ≡ from
unfolding most
most_none v from = refl

pub most_next : (v from k : ℕ) → most v from (suc k) ≡ most v from k + (CHANGES_AT + CHANGE_LEN * PAGE_SLOTS + disk_len v)
unfolding most
most_next v from k = refl

most_is : (v from k : ℕ) (b : Bool) → (v == VERSION_WITH_DISK) ≡ b
    → most v from k ≡ from + (CHANGES_AT + CHANGE_LEN * PAGE_SLOTS + cond b DISK_LEN 0) * k
unfolding most
most_is v from zero b is = omega arith
most_is v from (suc k) true is = let own : disk_len v ≡ DISK_LEN = rw is refl in omega (arith, most_is v from k true is)
most_is v from (suc k) false is = let own : disk_len v ≡ 0 = rw is refl in omega (arith, most_is v from k false is)

-- the length of the longest file of a version
abbrev pub longest : ℕ → ℕ
longest v = if v == VERSION_WITH_DISK then LONGEST_WITH_DISK else LONGEST_RECORDING

pub longest_least : (v : ℕ) → LONGEST_RECORDING ≤ longest v
longest_least v = go (v == VERSION_WITH_DISK)
  where
    go : (b : Bool) → LONGEST_RECORDING ≤ cond b LONGEST_WITH_DISK LONGEST_RECORDING
    go true = omega arith
    go false = omega arith

pub longest_most : (v : ℕ) → longest v ≤ LONGEST_WITH_DISK
longest_most v = go (v == VERSION_WITH_DISK)
  where
    go : (b : Bool) → cond b LONGEST_WITH_DISK LONGEST_RECORDING ≤ LONGEST_WITH_DISK
    go true = omega arith
    go false = omega arith

-- it has that many pages, events and checkpoints, and that much output
pub most_within : (v pages events k : ℕ) → pages ≤ MAX_PAGES → events ≤ max_events v → k ≤ MAX_CHECKPOINTS
    → most v (event_start pages events) k + MAX_OUTPUT ≤ longest v
most_within v pages events k some few less = go (v == VERSION_WITH_DISK) refl
  where
    go : (b : Bool) → (v == VERSION_WITH_DISK) ≡ b → most v (event_start pages events) k + MAX_OUTPUT ≤ longest v
    go true is =
        let limit : max_events v ≡ MAX_EVENTS_WITH_DISK = rw is refl in
        let all : longest v ≡ LONGEST_WITH_DISK = rw is refl in
        omega (arith, most_is v (event_start pages events) k true is)
    go false is =
        let limit : max_events v ≡ MAX_EVENTS = rw is refl in
        let all : longest v ≡ LONGEST_RECORDING = rw is refl in
        omega (arith, most_is v (event_start pages events) k false is)

-- the offset of checkpoint 0 of parts, and of the one after each
pub start_in_first : (v : ℕ) (r : RecordingParts) → start_in v r 0 ≡ event_start (length r.pool) (length r.inputs)
unfolding start_in
start_in_first v r = refl

pub start_in_next : (v : ℕ) (r : RecordingParts) (k : ℕ)
    → start_in v r (suc k) ≡ start_in v r k + checkpoint_len v (changes_in v (table_before r.checkpoints k) (checkpoint_at r k))
unfolding start_in
start_in_next v r k = refl

-- the offsets of checkpoints rise
pub start_in_rises : (v : ℕ) (r : RecordingParts) (k n : ℕ) → k ≤ n → start_in v r k ≤ start_in v r n
start_in_rises v r = rises (start_in v r) (λ k. let next = start_in_next v r k in omega arith)

-- each checkpoint has its room
size_more : (v changes : ℕ) → CHANGES_AT ≤ checkpoint_len v changes
size_more v changes = grind (arith, nat_tests)

pub changed_room : (v : ℕ) (r : RecordingParts) (k : ℕ) → start_in v r k + CHANGES_AT ≤ start_in v r (suc k)
changed_room v r k = omega (arith, start_in_next v r k, size_more v (changes_in v (table_before r.checkpoints k) (checkpoint_at r k)))

-- no further than as many of the longest checkpoints reach
pub start_in_within : (v : ℕ) (r : RecordingParts) (k : ℕ) → start_in v r k ≤ most v (event_start (length r.pool) (length r.inputs)) k
start_in_within v r zero = omega (arith, start_in_first v r, most_none v (event_start (length r.pool) (length r.inputs)))
start_in_within v r (suc k) =
    let few = changes_in_few v (table_before r.checkpoints k) (checkpoint_at r k) in
    omega (
      arith,
      start_in_within v r k,
      start_in_next v r k,
      most_next v (event_start (length r.pool) (length r.inputs)) k,
      size_few v (changes_in v (table_before r.checkpoints k) (checkpoint_at r k)) few,
    )

-- and so within any limits
pub start_in_most : (v : ℕ) (r : RecordingParts) (k : ℕ)
    → start_in v r k ≤ event_start (length r.pool) (length r.inputs) + (CHANGES_AT + CHANGE_LEN * PAGE_SLOTS + DISK_LEN) * k
start_in_most v r k = go (v == VERSION_WITH_DISK) refl
  where
    go : (b : Bool) → (v == VERSION_WITH_DISK) ≡ b
        → start_in v r k ≤ event_start (length r.pool) (length r.inputs) + (CHANGES_AT + CHANGE_LEN * PAGE_SLOTS + DISK_LEN) * k
    go true is = omega (arith, start_in_within v r k, most_is v (event_start (length r.pool) (length r.inputs)) k true is)
    go false is = omega (arith, start_in_within v r k, most_is v (event_start (length r.pool) (length r.inputs)) k false is)

-- the length of all output is the sum of the checkpoints' outputs
total_head : (f : ℕ → ℕ) (n : ℕ) → total f (suc n) ≡ f 0 + total (λ i. f (suc i)) n
unfolding total
total_head f zero = omega arith
total_head f (suc n) = let ih = total_head f n in omega arith

output_total : (cs : List CheckpointParts) → total (λ i. length (get_or cs i no_checkpoint).sent) (length cs) ≡ length (output_of cs)
unfolding total
output_total [] = refl
output_total (c ∷ cs) =
    total_head (λ i. length (get_or (c ∷ cs) i no_checkpoint).sent) (length cs) ∙ ap (λ (n : ℕ). length c.sent + n) (output_total cs)
    ∙ sym (length-append c.sent (output_of cs))

pub sent_all : (v : ℕ) (r : RecordingParts) → sent_below (fields_in v r) (length r.checkpoints) ≡ length (output_of r.checkpoints)
sent_all v r = output_total r.checkpoints

-- the length of the parts' file is right
pub ends_met : (v : ℕ) (r : RecordingParts) → first_broken (end_rules (fields_in v r)) ≡ None
ends_met v r =
    let f = fields_in v r in
    let same : file_len f ≡ f.long = ap (λ (n : ℕ). start_in v r (length r.checkpoints) + n) (sent_all v r) in
    let a : nat_le (file_len f) f.long ≡ true = le-leb _ _ (omega arith) in
    let b : (f.long == file_len f) ≡ true = eq-eqb _ _ (sym same) in
    rw (a, b) refl
