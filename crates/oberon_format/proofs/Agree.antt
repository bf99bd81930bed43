-- An encoding of parts has their fields, and so their first fault.
use Rattle.oberon_format.proofs.Common.{[], add-zero, All, All-from_recursion, ap, ap₂, AreFormed, AreWritableWithDisk, arith, H_AT, change_bytes, change_count, CHANGE_LEN, change_of, change_offset, changes, CHANGES_AT, changes_in, checkpoint_at, checkpoint_bytes, checkpoint_fields, checkpoint_of, checkpoint_len, CheckpointParts, checkpoints, rate_and_phase, common_bytes, drop, encoding, Event, event_bytes, event_fields, event_of, event_offset, event_start, events, field_words, fields_in, fields_of, first_broken, first_fault_with_disk, FIRST_VERSION, flat_map, get_or, get_or-map, get_or_default, header_bytes, HEADER_LEN, if◌then◌else◌, inl, inr, is_version_with_disk, HasStillTimer, IsWritableWithDisk, key_bytes, KEYS_AT, KIND_AT, kind_fits, kind_of, word_since_2, tail_words, length, length-append, List, long_at, long_bytes, named_len, nat_le, no_change, no_checkpoint, no_event, page_id_after, page_id_before, output_of, page_at, page_id_of, page_offset, pages, PAGE_SLOTS, RATE_AT, RecordingParts, refl, REGISTERS_AT, SENT_AT, slice_index, slice_range, start, start_in, subst, suc, sym, TABLE_AT, table_before, tail_bytes, take, true, value_fits, value_of, VERSION_WITH_DISK, version, word_at, words_bytes, words_from, zero, ℕ, ◌*◌, ◌++◌, ◌+◌, ◌-◌, ◌<◌, ◌==◌, ◌^◌, ◌∙◌, ◌∷◌, ◌≡◌, ◌≤◌, false, Bool, cond, disk_words, disk_at, IsUnanswered, UNANSWERED}
use Rattle.std.proofs.lemmas.List.{get_or_append_left}
use Rattle.oberon_format.specs.Rules.{rules}
use Rattle.oberon_format.proofs.Bytes.{HasBytes, bytes_left, bytes_right, long_read, words_read, word_of, parts_read, length-long_bytes, length-words_bytes, length-parts}
use Rattle.oberon_format.proofs.ChangeLemmas.{change_in, changes_few, changes-make, after-same}
use Rattle.oberon_format.proofs.Encoded.{AreAt, encoding_parts, length-encoding, change_words, change_wide, fields_wide, header_words, header_wide, later_wide, length-changes, length-common_bytes, length-key_bytes}
use Rattle.oberon_format.proofs.PartLemmas.{member, table_next}
use Rattle.oberon_format.proofs.RuleLemmas.{version_cases, last_later}
use Rattle.oberon_format.proofs.SameFields.{SameFields, mixed, same_rules, same_size}
use Rattle.oberon_format.proofs.ReadRules.{later_first, later_second, number_first, number_second, numbers_none}
use Rattle.oberon_format.specs.declared.fault.Fault.TheVariants as fault

-- an event at an offset has its fields there
event_agrees : (bytes : List ℕ) (offset : ℕ) (e : Event) → HasBytes bytes offset (event_bytes e) → event_of bytes offset ≡ event_fields e
unfolding event_bytes words_from
event_agrees bytes offset e s =
    let kind = kind_of e.input in let value = value_of e.input in
    let count = long_read bytes offset e.count e.range (bytes_left bytes offset (long_bytes e.count) (words_bytes (kind ∷ value ∷ [])) s) in
    let words = words_read bytes offset KIND_AT (offset + KIND_AT) 2 (kind ∷ value ∷ []) refl refl
    (All-from_recursion (λ x. x < 2 ^ 32) (kind ∷ value ∷ []) (omega (arith, kind_fits kind value e.input.lawful, value_fits kind value e.input.lawful)))
    (bytes_right bytes offset (offset + KIND_AT) (long_bytes e.count) (words_bytes (kind ∷ value ∷ [])) (omega (arith, length-long_bytes e.count)) s) in
    λ i. record { count = count i; kind = slice_index (words i) 0; value = slice_index (words i) 1 }

-- what begins a checkpoint
pub record HasCommon (bytes : List ℕ) (p : ℕ) (c : CheckpointParts) : Type 0 where
  pub count : long_at bytes p ≡ c.count
  pub registers : words_from bytes p REGISTERS_AT 16 ≡ c.cpu.r
  pub fields : words_from bytes p H_AT 10 ≡ field_words c
  pub keys : slice_range bytes (p + KEYS_AT) (p + SENT_AT) ≡ key_bytes c.devices
  pub sent : word_at bytes (p + SENT_AT) ≡ length c.sent

common_agrees : (bytes : List ℕ) (p : ℕ) (c : CheckpointParts) → IsWritableWithDisk c → HasBytes bytes p (common_bytes c) → HasCommon bytes p c
unfolding common_bytes words_from
common_agrees bytes p c fits s =
    let a = long_bytes c.count in let r = words_bytes c.cpu.r in
    let f = words_bytes (field_words c) in
    let k = key_bytes c.devices in let n = words_bytes (length c.sent ∷ []) in
    let s3 = bytes_left bytes p (a ++ r ++ f ++ k) n s in
    let s2 = bytes_left bytes p (a ++ r ++ f) k s3 in
    let s1 = bytes_left bytes p (a ++ r) f s2 in
    let count = fits.formed.registers in let la = length-long_bytes c.count in let lr = length-words_bytes c.cpu.r in let lar = length-append a r in
    let lf : length (a ++ r ++ f) ≡ KEYS_AT = length-append (a ++ r) f ∙ omega (arith, length-words_bytes (field_words c)) in
    let lk : length (a ++ r ++ f ++ k) ≡ SENT_AT = length-append (a ++ r ++ f) k ∙ omega (arith, length-key_bytes c.devices fits.formed.devices.keys) in
    let keys = bytes_right bytes p (p + KEYS_AT) (a ++ r ++ f) k (omega arith) s3 in
    let many : p + SENT_AT - (p + KEYS_AT) ≡ length k = omega (arith, length-key_bytes c.devices fits.formed.devices.keys) in
    record {
      count = long_read bytes p c.count fits.count (bytes_left bytes p a r s1);
      registers = words_read bytes p REGISTERS_AT (p + REGISTERS_AT) 16 c.cpu.r refl (sym count)
          (λ i d lt. subst (λ (x : ℕ). x < 2 ^ 32) (get_or_default c.cpu.r i 0 d lt) (fits.formed.words i)) (bytes_right bytes p (p + REGISTERS_AT) a r (omega arith) s1);
      fields = words_read bytes p H_AT (p + H_AT) 10 (field_words c) refl refl (fields_wide c fits) (bytes_right bytes p (p + H_AT) (a ++ r) f (omega arith) s2);
      keys = ap (λ (m : ℕ). take m (drop (p + KEYS_AT) bytes)) many ∙ keys.is;
      sent = ap (λ (ws : List ℕ). slice_index ws 0) (words_read bytes p SENT_AT (p + SENT_AT) 1 (length c.sent ∷ []) refl refl
          (All-from_recursion (λ x. x < 2 ^ 32) (length c.sent ∷ []) (fits.sent, tt)) (bytes_right bytes p (p + SENT_AT) (a ++ r ++ f ++ k) n (omega arith) s));
    }

-- the rest of a checkpoint, by the version
table_is_at : (v : ℕ) (bytes : List ℕ) (p : ℕ) (before : List ℕ) (c : CheckpointParts) → IsWritableWithDisk c → v ≡ FIRST_VERSION → HasBytes bytes p (checkpoint_bytes v before c)
    → HasBytes bytes (p + TABLE_AT) (words_bytes c.table)
unfolding checkpoint_bytes tail_bytes
table_is_at v bytes p before c fits first s =
    bytes_right bytes p (p + TABLE_AT) (common_bytes c) (words_bytes c.table) (omega (arith, length-common_bytes c fits.formed))
    (subst (λ (n : ℕ). HasBytes bytes p (checkpoint_bytes n before c)) first s)

all_is_at : (v : ℕ) (bytes : List ℕ) (p : ℕ) (before : List ℕ) (c : CheckpointParts) → IsWritableWithDisk c → (v == FIRST_VERSION) ≡ false → HasBytes bytes p (checkpoint_bytes v before c)
    → HasBytes bytes (p + RATE_AT) (words_bytes (tail_words before c) ++ flat_map change_bytes (changes before c.table) ++ words_bytes (disk_words v c.devices))
unfolding checkpoint_bytes tail_bytes
all_is_at v bytes p before c fits second s =
    let tail = words_bytes (tail_words before c) ++ flat_map change_bytes (changes before c.table) ++ words_bytes (disk_words v c.devices) in
    bytes_right bytes p (p + RATE_AT) (common_bytes c) tail (omega (arith, length-common_bytes c fits.formed))
    (subst (λ (b : Bool). HasBytes bytes p (common_bytes c ++ cond b (words_bytes c.table) tail)) second s)

later_is_at : (v : ℕ) (bytes : List ℕ) (p : ℕ) (before : List ℕ) (c : CheckpointParts) → IsWritableWithDisk c → (v == FIRST_VERSION) ≡ false → HasBytes bytes p (checkpoint_bytes v before c)
    → HasBytes bytes (p + RATE_AT) (words_bytes (tail_words before c) ++ flat_map change_bytes (changes before c.table))
later_is_at v bytes p before c fits second s =
    bytes_left bytes (p + RATE_AT) (words_bytes (tail_words before c) ++ flat_map change_bytes (changes before c.table)) (words_bytes (disk_words v c.devices))
    (all_is_at v bytes p before c fits second s)

-- the disk's answer of a checkpoint, in each version
disk_agrees : (v : ℕ) (bytes : List ℕ) (p : ℕ) (before : List ℕ) (c : CheckpointParts) → version bytes ≡ v → IsWritableWithDisk c → ((v == VERSION_WITH_DISK) ≡ false → IsUnanswered c)
    → change_count bytes p ≡ changes_in v before c → HasBytes bytes p (checkpoint_bytes v before c) → disk_at bytes p ≡ c.devices.disk
unfolding words_from
disk_agrees v bytes p before c of fits quiet count s = go (v == VERSION_WITH_DISK) refl where
  by_version : (b : Bool) → (version bytes == VERSION_WITH_DISK) ≡ b → disk_at bytes p ≡ cond b (word_at bytes (change_offset p (change_count bytes p))) UNANSWERED
  by_version b is = ap (λ (x : Bool). cond x (word_at bytes (change_offset p (change_count bytes p))) UNANSWERED) is

  go : (b : Bool) → (v == VERSION_WITH_DISK) ≡ b → disk_at bytes p ≡ c.devices.disk
  go false is = by_version false (ap (λ (n : ℕ). n == VERSION_WITH_DISK) of ∙ is) ∙ sym (quiet is)
  go true is =
      let later = last_later v is in let cs = changes before c.table in let n = length cs in
      let many : change_count bytes p ≡ n = count ∙ (rw later refl) in
      let front = words_bytes (tail_words before c) ++ flat_map change_bytes cs in
      let at = change_offset p n in
      let len : length front ≡ CHANGES_AT - RATE_AT + CHANGE_LEN * n = length-append (words_bytes (tail_words before c)) (flat_map change_bytes cs)
      ∙ omega (arith, length-words_bytes (tail_words before c), length-parts change_bytes CHANGE_LEN cs (length-changes cs)) in
      let words : HasBytes bytes at (words_bytes (disk_words v c.devices)) =
      bytes_right bytes (p + RATE_AT) at front (words_bytes (disk_words v c.devices)) (omega (arith, len)) (all_is_at v bytes p before c fits later s) in
      let own : HasBytes bytes at (words_bytes (c.devices.disk ∷ [])) = subst (λ (b : Bool). HasBytes bytes at (words_bytes (cond b (c.devices.disk ∷ []) []))) is words in
      let read = words_read bytes at 0 at 1 (c.devices.disk ∷ []) (omega arith) refl (All-from_recursion (λ x. x < 2 ^ 32) (c.devices.disk ∷ []) (fits.formed.devices.disk, tt)) own in
      let place : word_at bytes at ≡ c.devices.disk = ap (word_at bytes) (sym (add-zero at)) ∙ ap (λ (ws : List ℕ). slice_index ws 0) read in
      by_version true (ap (λ (n : ℕ). n == VERSION_WITH_DISK) of ∙ is) ∙ ap (λ (m : ℕ). word_at bytes (change_offset p m)) many ∙ place

-- the fields that only version 2 has
pub record HasLater (v : ℕ) (bytes : List ℕ) (p : ℕ) (before : List ℕ) (c : CheckpointParts) : Type 0 where
  pub clock : (i : ℕ) → i < length (rate_and_phase c.devices) → word_since_2 bytes (p + (RATE_AT + 4 * i)) ≡ slice_index (rate_and_phase c.devices) i
  pub count : change_count bytes p ≡ changes_in v before c

later_agrees : (v : ℕ) (bytes : List ℕ) (p : ℕ) (before : List ℕ) (c : CheckpointParts) → is_version_with_disk v ≡ true → version bytes ≡ v → IsWritableWithDisk c
    → (v ≡ FIRST_VERSION → HasStillTimer c) → HasBytes bytes p (checkpoint_bytes v before c) → HasLater v bytes p before c
unfolding words_from
later_agrees v bytes p before c known of fits still s =
    elim (version_cases v known) [
      | inl first ↦ record {
        clock = λ i lt. later_first bytes (p + (RATE_AT + 4 * i)) (of ∙ first) ∙ sym ((still first).zeros i 0 lt);
        count = rw (of, first) refl;
      }
      | inr second ↦
          let later_of : (v == FIRST_VERSION) ≡ false → (version bytes == FIRST_VERSION) ≡ false = λ is. ap (λ (n : ℕ). n == FIRST_VERSION) of ∙ is in
          let words = words_bytes (tail_words before c) in
          let cs = flat_map change_bytes (changes before c.table) in
          let n = length (tail_words before c) in
          let count = length (changes before c.table) in
          let later = words_read bytes p RATE_AT (p + RATE_AT) n (tail_words before c) refl refl (later_wide before c fits (omega (arith, changes_few before c.table)))
          (bytes_left bytes (p + RATE_AT) words cs (later_is_at v bytes p before c fits second s)) in
          let word : (i : ℕ) → i < n → word_since_2 bytes (p + (RATE_AT + 4 * i)) ≡ slice_index (tail_words before c) i = λ i lt.
          later_second bytes (p + (RATE_AT + 4 * i)) (later_of second) ∙ sym (word_of bytes p RATE_AT n i 0 lt) ∙ ap (λ (ws : List ℕ). slice_index ws i) later in
          let all : length (tail_words before c) ≡ length (rate_and_phase c.devices) + 1 = length-append (rate_and_phase c.devices) (count ∷ []) in
          let last : change_count bytes p ≡ count = word (length (rate_and_phase c.devices)) (omega arith) in
          record {
            clock = λ i lt. word i (omega arith) ∙ get_or_append_left (rate_and_phase c.devices) (count ∷ []) 0 i lt;
            count = last ∙ rw second refl;
          }
    ]

-- a checkpoint at an offset has its fields there
checkpoint_agrees : (v : ℕ) (bytes : List ℕ) (p : ℕ) (before : List ℕ) (c : CheckpointParts) → HasCommon bytes p c → HasLater v bytes p before c
    → checkpoint_of bytes p ≡ checkpoint_fields v before c
unfolding words_from
checkpoint_agrees v bytes p before c front later =
    let word : (k : ℕ) → slice_index (words_from bytes p H_AT 10) k ≡ slice_index (field_words c) k = λ k. ap (λ (ws : List ℕ). slice_index ws k) front.fields in
    λ i. record {
      count = front.count i;
      pc = word 1 i;
      flags = word 2 i;
      stop = word 3 i;
      switches = word 5 i;
      leds = word 6 i;
      mouse = word 7 i;
      serial = word 8 i;
      waiting = word 9 i;
      keys = front.keys i;
      output = front.sent i;
      rate = later.clock 0 (omega arith) i;
      phase = later.clock 1 (omega arith) i;
      changes = later.count i;
    }

-- change i of a checkpoint of version 2 or 3
change_agrees : (v : ℕ) (bytes : List ℕ) (p : ℕ) (before : List ℕ) (c : CheckpointParts) → (v == FIRST_VERSION) ≡ false → IsWritableWithDisk c → HasBytes bytes p (checkpoint_bytes v before c)
    → (i : ℕ) → i < length (changes before c.table) → change_of bytes p i ≡ change_in before c.table i
unfolding change_bytes words_from
change_agrees v bytes p before c second fits s i lt =
    let cs = changes before c.table in let change = change_in before c.table i in let at = change_offset p i in
    let words = words_bytes (tail_words before c) in
    let all = bytes_right bytes (p + RATE_AT) (p + CHANGES_AT) words (flat_map change_bytes cs) (omega (arith, length-words_bytes (tail_words before c)))
    (later_is_at v bytes p before c fits second s) in
    let pair : words_from bytes at 0 2 ≡ change_words change = words_read bytes at 0 at 2 (change_words change) (omega arith) refl (change_wide before c.table fits.formed.table i no_change lt)
    (parts_read change_bytes CHANGE_LEN bytes (p + CHANGES_AT) cs (length-changes cs) all i no_change lt) in
    let place : word_at bytes at ≡ change.slot = ap (word_at bytes) (sym (add-zero at)) ∙ ap (λ (ws : List ℕ). slice_index ws 0) pair in
    λ j. record { slot = place j; page_id = slice_index (pair j) 1 }

module _ (v : ℕ) (bytes : List ℕ) (r : RecordingParts) (known : is_version_with_disk v ≡ true) (fits : AreWritableWithDisk r) (are : AreAt v bytes r) where
  -- the numbers of the header
  header : words_from bytes 0 0 6 ≡ header_words v r
  unfolding header_bytes
  header = words_read bytes 0 0 0 6 (header_words v r) refl refl (header_wide v r known fits) are.header

  number : (k : ℕ) → k < 6 → word_at bytes (0 + (0 + 4 * k)) ≡ slice_index (header_words v r) k
  number k lt = sym (word_of bytes 0 0 6 k 0 lt) ∙ ap (λ (ws : List ℕ). slice_index ws k) header

  pub version_is : version bytes ≡ v
  version_is = number 1 (omega arith)

  pub pages_are : pages bytes ≡ length r.pool
  pages_are = number 2 (omega arith)

  pub events_are : events bytes ≡ length r.inputs
  events_are = number 3 (omega arith)

  pub checkpoints_are : checkpoints bytes ≡ length r.checkpoints
  checkpoints_are = number 4 (omega arith)

  -- the pages and the events
  pub page_is : (p : ℕ) (d : List ℕ) → p < length r.pool → page_at bytes p ≡ get_or r.pool p d
  page_is p d lt =
      let page = fits.pool p d lt in
      words_read bytes (page_offset p) 0 (page_offset p) 256 (get_or r.pool p d) (omega arith) (sym page.whole) page.fit (are.pages p d lt)

  pub event_is : (i : ℕ) (d : Event) → i < length r.inputs → event_of bytes (event_offset bytes i) ≡ event_fields (get_or r.inputs i d)
  event_is i d lt = ap (λ (n : ℕ). event_of bytes (event_start n i)) pages_are ∙ event_agrees bytes (event_start (length r.pool) i) (get_or r.inputs i d) (are.events i d lt)

  fit : (k : ℕ) → k < length r.checkpoints → IsWritableWithDisk (checkpoint_at r k)
  fit k lt = fits.checkpoints k no_checkpoint lt

  module _ (still : v ≡ FIRST_VERSION → All HasStillTimer r.checkpoints) where
    -- where the checkpoints are, and their fields
    later_in : (k : ℕ) → k < length r.checkpoints → HasLater v bytes (start_in v r k) (table_before r.checkpoints k) (checkpoint_at r k)
    later_in k lt =
        later_agrees v bytes (start_in v r k) (table_before r.checkpoints k) (checkpoint_at r k) known version_is (fit k lt) (λ first. still first k no_checkpoint lt)
        (are.checkpoints k lt)

    pub start_is : (k : ℕ) → k ≤ length r.checkpoints → start bytes k ≡ start_in v r k
    unfolding start start_in
    start_is zero le = rw (pages_are, events_are) refl
    start_is (suc k) le =
        let so_far = start_is k (omega arith) in
        let count = ap (change_count bytes) so_far ∙ (later_in k (omega arith)).count in
        ap (λ (n : ℕ). start bytes k + checkpoint_len (version bytes) n) count
        ∙ ap (λ (n : ℕ). start bytes k + checkpoint_len n (changes_in v (table_before r.checkpoints k) (checkpoint_at r k))) version_is
        ∙ ap (λ (n : ℕ). n + checkpoint_len v (changes_in v (table_before r.checkpoints k) (checkpoint_at r k))) so_far

    at_start : (k : ℕ) → k < length r.checkpoints → HasBytes bytes (start bytes k) (checkpoint_bytes v (table_before r.checkpoints k) (checkpoint_at r k))
    at_start k lt = subst (λ (p : ℕ). HasBytes bytes p (checkpoint_bytes v (table_before r.checkpoints k) (checkpoint_at r k))) (sym (start_is k (omega arith))) (are.checkpoints k lt)

    pub later : (k : ℕ) → k < length r.checkpoints → HasLater v bytes (start bytes k) (table_before r.checkpoints k) (checkpoint_at r k)
    later k lt = subst (λ (p : ℕ). HasLater v bytes p (table_before r.checkpoints k) (checkpoint_at r k)) (sym (start_is k (omega arith))) (later_in k lt)

    pub disk_is : ((v == VERSION_WITH_DISK) ≡ false → All IsUnanswered r.checkpoints) → (k : ℕ) → k < length r.checkpoints → disk_at bytes (start bytes k) ≡ (checkpoint_at r k).devices.disk
    disk_is quiet k lt =
        disk_agrees v bytes (start bytes k) (table_before r.checkpoints k) (checkpoint_at r k) version_is (fit k lt) (λ other. quiet other k no_checkpoint lt) (later k lt).count (at_start k lt)

    pub common : (k : ℕ) → k < length r.checkpoints → HasCommon bytes (start bytes k) (checkpoint_at r k)
    unfolding checkpoint_bytes
    common k lt =
        let c = checkpoint_at r k in
        common_agrees bytes (start bytes k) c (fit k lt) (bytes_left bytes (start bytes k) (common_bytes c) (tail_bytes v (table_before r.checkpoints k) c) (at_start k lt))

    -- in version 2 the table before each has the page ids that the file determines
    changes_agree : (k i : ℕ) → (v == FIRST_VERSION) ≡ false → k < length r.checkpoints → i < length (changes (table_before r.checkpoints k) (checkpoint_at r k).table)
        → change_of bytes (start bytes k) i ≡ change_in (table_before r.checkpoints k) (checkpoint_at r k).table i
    changes_agree k i second lt less = change_agrees v bytes (start bytes k) (table_before r.checkpoints k) (checkpoint_at r k) second (fit k lt) (at_start k lt) i less

    tables_agree : (k p : ℕ) → (v == FIRST_VERSION) ≡ false → k ≤ length r.checkpoints → p < PAGE_SLOTS → page_id_before bytes k p ≡ slice_index (table_before r.checkpoints k) p
    unfolding page_id_before
    tables_agree zero p second le lt = sym (numbers_none bytes p lt)
    tables_agree (suc k) p second le lt =
        let before = table_before r.checkpoints k in let table = (checkpoint_at r k).table in
        let many : change_count bytes (start bytes k) ≡ length (changes before table) =
        (later k (omega arith)).count ∙ rw second refl in
        ap (λ (n : ℕ). page_id_after (change_of bytes (start bytes k)) (page_id_before bytes k) n p) many
        ∙ after-same (change_of bytes (start bytes k)) (change_in before table) (page_id_before bytes k) (slice_index before) (length (changes before table)) p
        (λ i less. changes_agree k i second (omega arith) less) (tables_agree k p second (omega arith) lt) ∙ changes-make before table p lt
        ∙ ap (λ (t : List ℕ). slice_index t p) (sym (table_next r.checkpoints k))

    -- the page ids of each version
    pub numbers_agree : (k p : ℕ) → k < length r.checkpoints → p < PAGE_SLOTS → page_id_of bytes k p ≡ slice_index (checkpoint_at r k).table p
    numbers_agree k p lt less =
        let c = checkpoint_at r k in
        elim (version_cases v known) [
          | inl first ↦
              let table = (fit k lt).formed.table in
              let count = table.count in let at = start bytes k in
              let words = words_read bytes at TABLE_AT (at + TABLE_AT) PAGE_SLOTS c.table refl (sym count) table.fit
              (table_is_at v bytes at (table_before r.checkpoints k) c (fit k lt) first (at_start k lt)) in
              let e : at + TABLE_AT + 4 * p ≡ at + (TABLE_AT + 4 * p) = omega arith in
              number_first bytes k p (version_is ∙ first) ∙ ap (word_at bytes) e ∙ sym (word_of bytes at TABLE_AT PAGE_SLOTS p 0 less)
              ∙ ap (λ (ws : List ℕ). slice_index ws p) words
          | inr second ↦
              number_second bytes k p (ap (λ (n : ℕ). n == FIRST_VERSION) version_is ∙ second) ∙ tables_agree (suc k) p second (omega arith) less
              ∙ ap (λ (t : List ℕ). slice_index t p) (table_next r.checkpoints k)
        ]

    -- the changes of each version: in version 1 there are none
    all_changes : (k i : ℕ) → k < length r.checkpoints → i < changes_in v (table_before r.checkpoints k) (checkpoint_at r k)
        → change_of bytes (start bytes k) i ≡ change_in (table_before r.checkpoints k) (checkpoint_at r k).table i
    all_changes k i lt less =
        let before = table_before r.checkpoints k in let c = checkpoint_at r k in
        elim (version_cases v known) [
          | inl first ↦ let none : changes_in v before c ≡ 0 = rw first refl in absurd (omega arith)
          | inr second ↦ let all : changes_in v before c ≡ length (changes before c.table) = rw second refl in changes_agree k i second lt (omega arith)
        ]

    -- all fields
    fields_agree : length bytes ≡ start_in v r (length r.checkpoints) + length (output_of r.checkpoints) → SameFields (fields_of bytes) (fields_in v r)
    fields_agree long =
        let f = fields_of bytes in let g = fields_in v r in
        record {
          first = number 0 (omega arith);
          version = version_is;
          pages = pages_are;
          events = events_are;
          checkpoints = checkpoints_are;
          last = number 5 (omega arith);
          header = same_size f g HEADER_LEN HEADER_LEN long refl;
          parts = λ _. record {
            named = same_size f g (named_len (mixed f g)) (named_len g) long
                (ap₂ (λ (a b : ℕ). if v == FIRST_VERSION then a else b) (start_is (length r.checkpoints) (omega arith)) (start_is 0 (omega arith)));
            event = λ i lt. let d = member r.inputs i lt in event_is i d lt ∙ sym (get_or-map event_fields r.inputs i d no_event lt);
            start = start_is 0 (omega arith);
            checkpoint = λ k lt _. record {
              room = same_size f g (f.start k + CHANGES_AT) (g.start k + CHANGES_AT) long (ap (λ (n : ℕ). n + CHANGES_AT) (start_is k (omega arith)));
              fields = checkpoint_agrees v bytes (start bytes k) (table_before r.checkpoints k) (checkpoint_at r k) (common k lt) (later k lt);
              rest = λ _.
                  let next = start_is (suc k) (omega arith) in
                  record {
                    next = next;
                    ends = same_size f g (f.start (suc k)) (g.start (suc k)) long next;
                    change = λ i less. all_changes k i lt less;
                    page_id = λ p less. numbers_agree k p lt less;
                  };
            };
            ends = λ _ so_far. λ i. first_broken ((nat_le (so_far.start i + so_far.sent i) (long i), fault.Short (long i)) ∷ (long i == so_far.start i + so_far.sent i, fault.Trailing (so_far.start i + so_far.sent i)) ∷ []);
          };
        }

-- and so the first fault
pub encoding_agrees : (v : ℕ) (r : RecordingParts) → is_version_with_disk v ≡ true → (v ≡ FIRST_VERSION → All HasStillTimer r.checkpoints) → AreWritableWithDisk r
    → first_fault_with_disk (encoding v r) ≡ first_broken (rules (fields_in v r))
encoding_agrees v r known still fits =
    let formed : AreFormed r.checkpoints = λ i d lt. (fits.checkpoints i d lt).formed in
    same_rules (fields_of (encoding v r)) (fields_in v r)
    (fields_agree v (encoding v r) r known fits (encoding_parts v r fits.pool formed) still (length-encoding v r fits.pool formed))

-- an encoding has its version
pub version_of : (v : ℕ) (r : RecordingParts) → is_version_with_disk v ≡ true → AreWritableWithDisk r → version (encoding v r) ≡ v
version_of v r known fits = version_is v (encoding v r) r known fits (encoding_parts v r fits.pool (λ i d lt. (fits.checkpoints i d lt).formed))
