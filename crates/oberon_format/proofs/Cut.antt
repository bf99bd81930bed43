-- How long the file of a recording can be, and that a file that is cut after that many bytes has the first fault of the whole.
use Rattle.oberon_format.proofs.Common.{[], ap, ap₂, arith, Bool, cases_lt, change_at, change_count, CHANGE_COUNT_AT, CHANGE_LEN, change_of, change_offset, CHANGES_AT, checkpoint_of, checkpoint_rules, checkpoint_len, CheckpointFields, checkpoints, CHECKPOINTS_AT, PC_AT, drop, drop-take, each, eqb-true, EVENT_LEN, event_of, event_offset, event_start, events, EVENTS_AT, false, Fields, fields_of, first_broken, first_fault_with_disk, FIRST_VERSION, FLAGS_AT, HEADER_LEN, if◌then◌else◌, inl, inr, KEYS_AT, KIND_AT, LAST_AT, word_since_2, le-leb, LEDS_AT, length, length-take, List, little_from-take, long_at, MAGIC_AT, MAX_OUTPUT, MOUSE_AT, named_len, nat_le, ne_eqb, None, page_id_after, PAGE_ID_AT, page_id_before, page_id_of, page_id_offset, pages, PAGES_AT, PHASE_AT, PAGE_SLOTS, RATE_AT, RecordingParts, refl, SENT_AT, sent_below, SERIAL_AT, slice_range, Some, start, STOP_AT, subst, suc, SWITCHES_AT, sym, take, take-take, IsEncoding, total, true, VALUE_AT, version, VERSION_AT, WAITING_AT, file_len, word_at, zero, ℕ, ◌*◌, ◌+◌, ◌-◌, ◌<◌, ◌==◌, ◌∙◌, ◌∷◌, ◌≡◌, ◌≤◌, disk_len, first_fault_of, LONGEST_RECORDING, Text, VERSION_WITH_DISK, MAX_EVENTS, max_events}
use Rattle.oberon_format.proofs.ChangeLemmas.{after-same}
use Rattle.oberon_format.proofs.Encoded.{length-encoding}
use Rattle.oberon_format.proofs.LawfulLemmas.{events_few, lawful_formed}
use Rattle.oberon_format.proofs.PartLemmas.{longest, longest_least, most, most_next, most_none, most_within, size_few, start_in_within}
use Rattle.oberon_format.proofs.PlainLemmas.{fault_other, not_disk}
use Rattle.oberon_format.proofs.Room.{start_next, start_none, named_first}
use Rattle.oberon_format.proofs.RuleLemmas.{fields_hold, met_left, met_right}
use Rattle.oberon_format.proofs.SameFields.{AreFew, Same, SameCheckpoint, SameFields, mixed, same_rules, size_rules}
use Rattle.oberon_format.specs.declared.fault.Fault.TheVariants as fault

-- numbers in bytes before the cut
word_at-take : (n : ℕ) (bytes : List ℕ) (offset : ℕ) → offset + 4 ≤ n → word_at (take n bytes) offset ≡ word_at bytes offset
unfolding word_at
word_at-take n bytes offset within = little_from-take offset 4 n bytes within

long_at-take : (n : ℕ) (bytes : List ℕ) (offset : ℕ) → offset + 8 ≤ n → long_at (take n bytes) offset ≡ long_at bytes offset
unfolding long_at
long_at-take n bytes offset within = little_from-take offset 8 n bytes within

event_of-take : (n : ℕ) (bytes : List ℕ) (offset : ℕ) → offset + EVENT_LEN ≤ n → event_of (take n bytes) offset ≡ event_of bytes offset
event_of-take n bytes offset within =
    let count = long_at-take n bytes offset (omega arith) in
    let kind = word_at-take n bytes (offset + KIND_AT) (omega arith) in
    let value = word_at-take n bytes (offset + VALUE_AT) (omega arith) in
    rw (count, kind, value) refl

slice_range-take : (n : ℕ) (bytes : List ℕ) (from to : ℕ) → to ≤ n → slice_range (take n bytes) from to ≡ slice_range bytes from to
slice_range-take n bytes from to within =
    elim (cases_lt n from) [
      | inl past ↦ let none : to - from ≡ 0 = omega arith in rw none refl
      | inr here ↦
          let split : n ≡ from + (n - from) = omega arith in
          ap (λ m. take (to - from) (drop from (take m bytes))) split ∙ ap (take (to - from)) (drop-take from (n - from) bytes)
          ∙ take-take (to - from) (n - from) (drop from bytes) (omega arith)
    ]

-- a file that is cut after the header has the version of the whole
version-take : (n : ℕ) (bytes : List ℕ) → LONGEST_RECORDING < n → version (take n bytes) ≡ version bytes
version-take n bytes over = word_at-take n bytes VERSION_AT (omega arith)

word_since_2-take : (n : ℕ) (bytes : List ℕ) (offset : ℕ) → LONGEST_RECORDING < n → offset + 4 ≤ n → word_since_2 (take n bytes) offset ≡ word_since_2 bytes offset
word_since_2-take n bytes offset over within =
    ap₂ (λ (v word : ℕ). if v == FIRST_VERSION then 0 else word) (version-take n bytes over) (word_at-take n bytes offset within)

checkpoint_of-take : (n : ℕ) (bytes : List ℕ) (offset : ℕ) → LONGEST_RECORDING < n → offset + CHANGES_AT ≤ n → checkpoint_of (take n bytes) offset ≡ checkpoint_of bytes offset
checkpoint_of-take n bytes offset over within =
    λ i. record {
      count = long_at-take n bytes offset (omega arith) i;
      pc = word_at-take n bytes (offset + PC_AT) (omega arith) i;
      flags = word_at-take n bytes (offset + FLAGS_AT) (omega arith) i;
      stop = word_at-take n bytes (offset + STOP_AT) (omega arith) i;
      switches = word_at-take n bytes (offset + SWITCHES_AT) (omega arith) i;
      leds = word_at-take n bytes (offset + LEDS_AT) (omega arith) i;
      mouse = word_at-take n bytes (offset + MOUSE_AT) (omega arith) i;
      serial = word_at-take n bytes (offset + SERIAL_AT) (omega arith) i;
      waiting = word_at-take n bytes (offset + WAITING_AT) (omega arith) i;
      keys = slice_range-take n bytes (offset + KEYS_AT) (offset + SENT_AT) (omega arith) i;
      output = word_at-take n bytes (offset + SENT_AT) (omega arith) i;
      rate = word_since_2-take n bytes (offset + RATE_AT) over (omega arith) i;
      phase = word_since_2-take n bytes (offset + PHASE_AT) over (omega arith) i;
      changes = word_since_2-take n bytes (offset + CHANGE_COUNT_AT) over (omega arith) i;
    }

change_at-take : (n : ℕ) (bytes : List ℕ) (offset : ℕ) → offset + CHANGE_LEN ≤ n → change_at (take n bytes) offset ≡ change_at bytes offset
change_at-take n bytes offset within =
    let at = word_at-take n bytes offset (omega arith) in
    let number = word_at-take n bytes (offset + PAGE_ID_AT) (omega arith) in
    λ i. record { slot = at i; page_id = number i }

-- how far a file reaches at most up to checkpoint k
abbrev reach : List ℕ → ℕ → ℕ
reach bytes k = most (version bytes) (event_offset bytes (events bytes)) k

-- the length that the header asks for
named_most : (bytes : List ℕ) → AreFew (fields_of bytes) → named_len (fields_of bytes) ≤ longest (version bytes)
named_most bytes few = go (version bytes == FIRST_VERSION) refl
  where
    go : (b : Bool) → (version bytes == FIRST_VERSION) ≡ b → named_len (fields_of bytes) ≤ longest (version bytes)
    go true is =
        let first = eqb-true (version bytes) FIRST_VERSION is in
        let limit : max_events (version bytes) ≡ MAX_EVENTS = rw first refl in
        let all : longest (version bytes) ≡ LONGEST_RECORDING = rw first refl in
        omega (arith, few.pages, few.events, few.checkpoints, start_none bytes, named_first bytes first)
    go false is =
        let named : named_len (fields_of bytes) ≡ start bytes 0 = rw is refl in
        omega (
          arith,
          start_none bytes,
          most_none (version bytes) (event_offset bytes (events bytes)),
          most_within (version bytes) (pages bytes) (events bytes) 0 few.pages few.events (omega arith),
        )

-- a file is longer than it must be
too_long : (end long : ℕ) → end < long → first_broken ((nat_le end long, fault.Short long) ∷ (long == end, fault.Trailing end) ∷ []) ≡ Some (fault.Trailing end)
too_long end long over =
    let there : nat_le end long ≡ true = le-leb _ _ (omega arith) in
    let more : (long == end) ≡ false = ne_eqb _ _ (λ e. omega arith) in
    rw (there, more) refl

-- two files that are longer than any of a recording have as many bytes as rules ask for
both_long : (limit : ℕ) (f g : Fields) (m n : ℕ) → limit < f.long → limit < g.long → m ≤ limit → n ≤ limit → Same (size_rules m f) (size_rules n g)
both_long limit f g m n over over' low low' =
    let there : nat_le m f.long ≡ true = le-leb _ _ (omega arith) in
    let there' : nat_le n g.long ≡ true = le-leb _ _ (omega arith) in
    rw (there, there') refl

-- a cut file, and the whole
module _ (n : ℕ) (bytes : List ℕ) (over : LONGEST_RECORDING < n) (beyond : longest (version bytes) < n)
    (within : n ≤ length bytes) where
  -- the longest file of their version
  abbrev limit : ℕ
  limit = longest (version bytes)

  abbrev cut : List ℕ
  cut = take n bytes

  abbrev f : Fields
  f = fields_of cut

  abbrev g : Fields
  g = fields_of bytes

  long : length cut ≡ n
  long = simp length-take (omega arith)

  -- checkpoint k begins no later than it may, and all before it agrees
  record Below (k : ℕ) : Type 0 where
    begins : start cut k ≡ start bytes k
    near : start bytes k ≤ reach bytes k
    sent : sent_below g k ≤ MAX_OUTPUT
    numbers : (p : ℕ) → p < PAGE_SLOTS → page_id_before cut k p ≡ page_id_before bytes k p

  begins : Below 0
  unfolding start total page_id_before
  begins = record {
    begins = ap₂ event_start (word_at-take n bytes PAGES_AT (omega arith)) (word_at-take n bytes EVENTS_AT (omega arith));
    near = omega (arith, most_none (version bytes) (event_offset bytes (events bytes)));
    sent = omega arith;
    numbers = λ p inside. refl;
  }

  module _ (few : AreFew g) (k : ℕ) (less : k < checkpoints bytes) (below : Below k) where
    -- there is room for the longest checkpoint
    room : start bytes k + (CHANGES_AT + CHANGE_LEN * PAGE_SLOTS + disk_len (version bytes)) ≤ limit
    room = omega (
      arith,
      below.near,
      most_next (version bytes) (event_offset bytes (events bytes)) k,
      most_within (version bytes) (pages bytes) (events bytes) (suc k) few.pages few.events (omega (arith, few.checkpoints)),
    )

    -- what is in checkpoint k
    fields_here : f.checkpoint k ≡ g.checkpoint k
    fields_here = ap (checkpoint_of cut) below.begins ∙ checkpoint_of-take n bytes (start bytes k) over (omega (arith, room))

    count_here : change_count cut (start cut k) ≡ change_count bytes (start bytes k)
    count_here = ap (λ (c : CheckpointFields). c.changes) fields_here

    change_here : (i : ℕ) → i < PAGE_SLOTS → f.change k i ≡ g.change k i
    change_here i inside = ap (λ (offset : ℕ). change_of cut offset i) below.begins ∙ change_at-take n bytes (change_offset (start bytes k) i) (omega (arith, room))

    -- the offset of the next checkpoint
    next_start : start cut (suc k) ≡ start bytes (suc k)
    unfolding start
    next_start = ap₂ (λ (offset size : ℕ). offset + size) below.begins (ap₂ checkpoint_len (version-take n bytes over) count_here)

    module _ (few_changes : change_count bytes (start bytes k) ≤ PAGE_SLOTS) where
      near_next : start bytes (suc k) ≤ reach bytes (suc k)
      unfolding start
      near_next = omega (arith, below.near, most_next (version bytes) (event_offset bytes (events bytes)) k, size_few (version bytes) (change_count bytes (start bytes k)) few_changes)

      -- its page ids, in version 2 and in either
      changed_here : (p : ℕ) → p < PAGE_SLOTS → page_id_before cut (suc k) p ≡ page_id_before bytes (suc k) p
      unfolding page_id_before
      changed_here p inside =
          ap (λ (m : ℕ). page_id_after (change_of cut (start cut k)) (page_id_before cut k) m p) count_here
          ∙ after-same (change_of cut (start cut k)) (change_of bytes (start bytes k)) (page_id_before cut k) (page_id_before bytes k) (change_count bytes (start bytes k)) p
          (λ i under. change_here i (omega arith)) (below.numbers p inside)

      number_here : (p : ℕ) → p < PAGE_SLOTS → page_id_of cut k p ≡ page_id_of bytes k p
      number_here p inside =
          let own = ap (λ (offset : ℕ). word_at cut (page_id_offset offset p)) below.begins ∙ word_at-take n bytes (page_id_offset (start bytes k) p) (omega (arith, room)) in
          let version_here = version-take n bytes over in let changed = changed_here p inside in
          λ i. if version_here i == FIRST_VERSION then own i else changed i

    -- what rules look at in it
    here : SameCheckpoint f g k
    here =
        let at = below.begins in
        record {
          room = both_long limit f g (start cut k + CHANGES_AT) (start bytes k + CHANGES_AT) (omega (arith, long)) (omega arith) (omega (arith, room)) (omega (arith, room));
          fields = fields_here;
          rest = λ few_changes.
              let next = next_start in let size = size_few (version bytes) (change_count bytes (start bytes k)) few_changes in
              let more = start_next bytes k in
              record {
                next = next;
                ends = both_long limit f g (start cut (suc k)) (start bytes (suc k)) (omega (arith, long)) (omega arith) (omega (arith, room)) (omega (arith, room));
                change = λ i under. change_here i (omega arith);
                page_id = number_here few_changes;
              };
        }

    -- and so all before the next one agrees, if its rules are met
    next : first_broken (checkpoint_rules g k) ≡ None → Below (suc k)
    unfolding total
    next met =
        let ranges = fields_hold g k met in
        record { begins = next_start; near = near_next ranges.changes; sent = ranges.within; numbers = changed_here ranges.changes }

  -- so all before each checkpoint agrees, if the rules of those before it are met
  below_met : AreFew g → (k : ℕ) → k ≤ checkpoints bytes → first_broken (each k (checkpoint_rules g)) ≡ None → Below k
  unfolding each
  below_met few zero le met = begins
  below_met few (suc k) le met =
      next few k (omega arith) (below_met few k (omega arith) (met_left (each k (checkpoint_rules g)) (checkpoint_rules g k) met))
      (met_right (each k (checkpoint_rules g)) (checkpoint_rules g k) met)

  few_cut : AreFew g → AreFew f
  few_cut few =
      let of_pages = word_at-take n bytes PAGES_AT (omega arith) in
      let of_events = word_at-take n bytes EVENTS_AT (omega arith) in
      let of_checkpoints = word_at-take n bytes CHECKPOINTS_AT (omega arith) in
      let same = ap max_events (version-take n bytes over) in
      record { pages = omega (arith, few.pages); events = omega (arith, few.events, same); checkpoints = omega (arith, few.checkpoints) }

  event_same : AreFew g → (i : ℕ) → i < events bytes → f.event i ≡ g.event i
  event_same few i less =
      let of_pages = word_at-take n bytes PAGES_AT (omega arith) in
      let from = most_none (version bytes) (event_offset bytes (events bytes)) in
      let all = most_within (version bytes) (pages bytes) (events bytes) 0 few.pages few.events (omega arith) in
      event_of-take n bytes (event_offset cut i) (omega (arith, of_pages, from, all)) ∙ ap (λ (p : ℕ). event_of bytes (event_start p i)) of_pages

  least : LONGEST_RECORDING ≤ limit
  least = longest_least (version bytes)

  agree : SameFields f g
  agree = record {
    first = word_at-take n bytes MAGIC_AT (omega arith);
    version = version-take n bytes over;
    pages = word_at-take n bytes PAGES_AT (omega arith);
    events = word_at-take n bytes EVENTS_AT (omega arith);
    checkpoints = word_at-take n bytes CHECKPOINTS_AT (omega arith);
    last = word_at-take n bytes LAST_AT (omega arith);
    header = both_long limit f g HEADER_LEN HEADER_LEN (omega (arith, long)) (omega arith) (omega (arith, least)) (omega (arith, least));
    parts = λ few. record {
      named = both_long limit f g (named_len (mixed f g)) (named_len g) (omega (arith, long)) (omega arith)
          (subst (λ (m : ℕ). m ≤ limit)
          (ap₂ (λ (v k : ℕ). if v == FIRST_VERSION then start cut k else start cut 0) (version-take n bytes over) (word_at-take n bytes CHECKPOINTS_AT (omega arith)))
          (subst (λ (v : ℕ). named_len f ≤ longest v) (version-take n bytes over) (named_most cut (few_cut few))))
          (named_most bytes few);
      event = event_same few;
      start = begins.begins;
      checkpoint = λ k less met. here few k less (below_met few k (omega arith) met);
      ends = λ met so_far.
          let below = below_met few (checkpoints bytes) (omega arith) met in
          let end = so_far.start in let sent = so_far.sent in
          let all = most_within (version bytes) (pages bytes) (events bytes) (checkpoints bytes) few.pages few.events few.checkpoints in
          let bounds : (start bytes (checkpoints bytes) + sent_below g (checkpoints bytes)) ≤ limit = omega (arith, all, below.near, below.sent) in
          too_long (start cut (checkpoints bytes) + sent_below f (checkpoints bytes)) (length cut) (omega (arith, long))
          ∙ ap₂ (λ (a b : ℕ). Some (fault.Trailing (a + b))) end sent ∙ sym (too_long (file_len g) (length bytes) (omega arith));
    };
  }

-- a file that is cut after the longest of its version has the first fault of the whole
pub first_fault_with_disk-take : (n : ℕ) (bytes : List ℕ) → longest (version bytes) < n → n ≤ length bytes
    → first_fault_with_disk (take n bytes) ≡ first_fault_with_disk bytes
first_fault_with_disk-take n bytes beyond within =
    let over : LONGEST_RECORDING < n = omega (arith, longest_least (version bytes)) in
    same_rules (fields_of (take n bytes)) (fields_of bytes) (agree n bytes over beyond within)

-- two files with a disk have the same first fault without one: that of their version, or of the number before it
both_other : (a b : List ℕ) → HEADER_LEN ≤ length a → HEADER_LEN ≤ length b → word_at a MAGIC_AT ≡ word_at b MAGIC_AT
    → (version a == VERSION_WITH_DISK) ≡ true → (version b == VERSION_WITH_DISK) ≡ true → first_fault_of a ≡ first_fault_of b
both_other a b long_a long_b magic is_a is_b =
    let there_a : nat_le HEADER_LEN (length a) ≡ true = le-leb _ _ long_a in
    let there_b : nat_le HEADER_LEN (length b) ≡ true = le-leb _ _ long_b in
    rw (there_a, there_b, magic, is_a, is_b) refl

-- so without a disk a file may be cut after the longest of version 2
pub first_fault_of-take : (n : ℕ) (bytes : List ℕ) → LONGEST_RECORDING < n → n ≤ length bytes → first_fault_of (take n bytes) ≡ first_fault_of bytes
first_fault_of-take n bytes over within = go (version bytes == VERSION_WITH_DISK) refl
  where
    same : (version (take n bytes) == VERSION_WITH_DISK) ≡ (version bytes == VERSION_WITH_DISK)
    same = ap (λ (v : ℕ). v == VERSION_WITH_DISK) (version-take n bytes over)

    long : length (take n bytes) ≡ n
    long = simp length-take (omega arith)

    go : (b : Bool) → (version bytes == VERSION_WITH_DISK) ≡ b → first_fault_of (take n bytes) ≡ first_fault_of bytes
    go true is = both_other (take n bytes) bytes (omega (arith, long)) (omega arith) (word_at-take n bytes MAGIC_AT (omega arith)) (same ∙ is) is
    go false is =
        let limit : longest (version bytes) ≡ LONGEST_RECORDING = rw is refl in
        fault_other (take n bytes) (same ∙ is) ∙ first_fault_with_disk-take n bytes (omega (arith, limit)) within ∙ sym (fault_other bytes is)

-- the longest file has a header, 65,536 pages, 1,000,000 or 4,000,000 events, 4,097 checkpoints that change each slot of the
-- table, and the output
pub file_within : (v : ℕ) (bytes : List ℕ) (r : RecordingParts) → IsEncoding v bytes r → length bytes ≤ longest v
file_within v bytes r is =
    let lawful = is.lawful in
    let long = ap (λ (l : List ℕ). length l) is.is ∙ length-encoding v r lawful.pool (lawful_formed r lawful) in
    omega (
      arith,
      start_in_within v r (length r.checkpoints),
      most_within v (length r.pool) (length r.inputs) (length r.checkpoints) lawful.pages (events_few v r lawful is.plain) lawful.few,
      lawful.output,
    )

pub plain_file_within : (bytes : List ℕ) (r : RecordingParts) → Text bytes r → length bytes ≤ LONGEST_RECORDING
plain_file_within bytes r text =
    let v = text.version in let limit : longest v ≡ LONGEST_RECORDING = rw (not_disk v text.without) refl in
    omega (arith, file_within v bytes r text.is, limit)

-- so no file of a recording is cut there
pub cut_is_no_recording : (n : ℕ) (bytes : List ℕ) (r : RecordingParts) → LONGEST_RECORDING < n → n ≤ length bytes → Text (take n bytes) r → ⊥
cut_is_no_recording n bytes r over within is =
    let short : length (take n bytes) ≤ LONGEST_RECORDING = plain_file_within (take n bytes) r is in
    omega (arith, simp length-take at short)
