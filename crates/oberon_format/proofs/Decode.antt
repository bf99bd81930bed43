-- What the reader makes of a file without a fault is the recording that the file encodes.
use Rattle.oberon_format.proofs.Common.{[], add-zero, All, All-drop, All-from_recursion, All-take, ap, AreBytes, AreFormed, AreOrdered, ArePages, AreWritableWithDisk, arith, H_AT, before_count, between_none, cases_lt, Change, change_bytes, change_count, CHANGE_COUNT_AT, CHANGE_LEN, change_of, change_offset, changes, CHANGES_AT, changes_in, checkpoint_at, checkpoint_bytes, checkpoint_of, checkpoint_len, CheckpointParts, checkpoints, CHECKPOINTS_AT, checkpoints_at, rate_and_phase, common_bytes, count_before, PC_AT, decoded, drop, EachAt, Event, event_bytes, event_floor, event_offset, event_rules, events, EVENTS_AT, field_words, fields_of, fill_by_all, first_fault_with_disk, FIRST_VERSION, FLAGS_AT, flat_map, get_or, get_or-map, get_or-map-range_with_len, get_or_default, get_or_past, HasPageIds, header_bytes, if◌then◌else◌, inl, inr, IsEventAt, IsFormed, IsLawfulWithDisk, IsPage, HasStillTimer, IsWritableWithDisk, key_bytes, KEYS_AT, KIND_AT, kind_of, word_since_2, tail_words, leb-true, LEDS_AT, length, length-append, length-between, length-map-range_with_len, List, little_from-lt, long_at, long_bytes, map-range_with_len_more, MAX_COUNT, Meets, MOUSE_AT, no_change, no_checkpoint, PAGE_ID_AT, number_back, page_id_before, output_of, output_offset, page_at, page_id_of, page_id_offset, page_offset, pages, PAGES_AT, pages_at, slot_floor, PAGE_SLOTS, prior_page_id, RATE_AT, RecordingParts, refl, REGISTERS_AT, SENT_AT, SERIAL_AT, slice_index, slice_range, start, start_in, STOP_AT, subst, suc, SWITCHES_AT, sym, TABLE_AT, table_at, table_before, tail_bytes, take, TextWithDisk, TIMER_AT, value_of, VERSION_WITH_DISK, version, WAITING_AT, word_at, words_bytes, words_from, zero, ℕ, ◌*◌, ◌++◌, ◌+◌, ◌-◌, ◌<◌, ◌==◌, ◌^◌, ◌∙◌, ◌∷◌, ◌≡◌, ◌≤◌, false, true, Bool, cond, disk_words, disk_at, disk_len, IsUnanswered, IsOfDisk, has_kind, DISK, UNANSWERED, eq-eqb, MAX_EVENTS, max_events}
use Rattle.risc_model.specs.InputOrder.{count_at}
use Rattle.oberon_format.proofs.ChangeLemmas.{AreLawful, after-bounded, after-same, change_in, lawful-are}
use Rattle.oberon_format.proofs.PartLemmas.{member, table_next}
use Rattle.oberon_format.proofs.RuleLemmas.{each_holds, met_parts, and_left, and_right, FieldsMet, checkpoint_holds, output_below, output_below_more, output_below_none, version_cases, none_hold}
use Rattle.oberon_format.proofs.Walk.{change_rises, change_inside, change_differs}
use Rattle.oberon_format.proofs.ReadRules.{prior_is, checkpoint_changed, later_first, later_second, number_first, number_second, numbers_none}
use Rattle.oberon_format.proofs.Agree.{encoding_agrees}
use Rattle.oberon_format.proofs.Bytes.{HasBytes, IsBytes, all_bytes, bytes_join, length-long_bytes, length-words_bytes, length-words_from, long_back, parts_back, word_of, words_back, serial_whole, length-parts}
use Rattle.oberon_format.proofs.Encoded.{AreAt, header_words, length-changes, length-common_bytes, length-key_bytes, parts_encoding}
use Rattle.oberon_format.proofs.Output.{keys-are_at, output_all, output_fits, output_more}
use Rattle.oberon_format.proofs.LawfulLemmas.{few_events, faultless_lawful, header_within}
use Rattle.oberon_format.proofs.Room.{common_there, changes_there, events_there, whole_there}

-- the events of a file without a fault are in order
count_is_at : (bytes : List ℕ) (es : List Event) (i : ℕ) → EachAt (IsEventAt bytes) es → i < length es → count_at es i ≡ long_at bytes (event_offset bytes i)
count_is_at bytes es i each lt =
    let d = member es i lt in
    get_or-map (λ (e : Event). e.count) es i d 0 lt ∙ sym (each i d lt).count

pub events_ordered : (bytes : List ℕ) (es : List Event) → Meets bytes → length es ≡ events bytes → EachAt (IsEventAt bytes) es → AreOrdered es
events_ordered bytes es meets len each offset lt =
    let f = fields_of bytes in
    let here = count_is_at bytes es offset each lt in
    let before : before_count es offset ≡ event_floor f offset =
    ap (λ (n : ℕ). if offset == 0 then 0 else n) (count_is_at bytes es (offset - 1) each (omega arith)) in
    let one = each_holds (event_rules f) (events bytes) offset (omega arith) meets.events_meet in
    let holds = (none_hold (event_rules f offset) one).0 in
    let count = long_at bytes (event_offset bytes offset) in let counts = and_left _ _ (and_left _ _ holds) in
    let low = leb-true (event_floor f offset) count (and_left _ _ counts) in
    let high = leb-true count MAX_COUNT (and_right _ _ counts) in
    omega (arith, here, before)

-- the changes of a checkpoint that breaks no rule are lawful after the table before it
pub changes_lawful : (bytes : List ℕ) (k : ℕ) (before : List ℕ) → Meets bytes → k < checkpoints bytes → (version bytes == FIRST_VERSION) ≡ false → HasPageIds before (page_id_before bytes k)
    → AreLawful (change_of bytes (start bytes k)) (slice_index before) (change_count bytes (start bytes k))
changes_lawful bytes k before meets lt is has =
    let met = checkpoint_changed bytes k meets lt is in
    let change = change_of bytes (start bytes k) in
    let inside = λ (i : ℕ) (few : i < change_count bytes (start bytes k)). change_inside (pages bytes) (slot_floor change i) (prior_page_id (fields_of bytes) k) (change i) (met.each_change i few) in
    record {
      rises = λ i few. change_rises (pages bytes) (slot_floor change i) (prior_page_id (fields_of bytes) k) (change i) (met.each_change i few);
      inside = inside;
      differs = λ i few e.
          let same : (change i).page_id ≡ prior_page_id (fields_of bytes) k (change i).slot = e ∙ has (change i).slot (inside i few) ∙ sym (prior_is bytes k (change i).slot is) in
          change_differs (pages bytes) (slot_floor change i) (prior_page_id (fields_of bytes) k) (change i) (met.each_change i few) same;
    }

-- a version without inputs of the disk
no_disk : (v kind : ℕ) → (v == VERSION_WITH_DISK) ≡ false → has_kind v kind ≡ true → kind ≡ DISK → ⊥
no_disk v kind other met is =
    let yes : (kind == DISK) ≡ true = eq-eqb kind DISK is in
    let wrong : has_kind v kind ≡ false = rw (other, yes) refl in absurd cc

-- numbers of bytes fit
word_fits : (bytes : List ℕ) (offset : ℕ) → AreBytes bytes → word_at bytes offset < 2 ^ 32
unfolding word_at
word_fits bytes offset are_bytes = little_from-lt offset 4 bytes (all_bytes bytes are_bytes)

pub long_fits : (bytes : List ℕ) (offset : ℕ) → AreBytes bytes → long_at bytes offset < 2 ^ 64
unfolding long_at
long_fits bytes offset are_bytes = little_from-lt offset 8 bytes (all_bytes bytes are_bytes)

-- the words that only later versions have fit, and so do page ids of each version
later_fits : (bytes : List ℕ) (offset : ℕ) → AreBytes bytes → word_since_2 bytes offset < 2 ^ 32
later_fits bytes offset are_bytes = let fits = word_fits bytes offset are_bytes in grind arith

disk_fits : (bytes : List ℕ) (offset : ℕ) → AreBytes bytes → disk_at bytes offset < 2 ^ 32
disk_fits bytes offset are_bytes = let fits = word_fits bytes (change_offset offset (change_count bytes offset)) are_bytes in grind arith

before_fits : (bytes : List ℕ) (k p : ℕ) → AreBytes bytes → page_id_before bytes k p ≤ 2 ^ 32 - 1
unfolding page_id_before
before_fits bytes zero p are_bytes = omega arith
before_fits bytes (suc k) p are_bytes =
    after-bounded (change_of bytes (start bytes k)) (page_id_before bytes k) (change_count bytes (start bytes k)) p (2 ^ 32 - 1)
    (λ i lt. let fits = word_fits bytes (change_offset (start bytes k) i + PAGE_ID_AT) are_bytes in omega arith) (before_fits bytes k p are_bytes)

number_fits : (bytes : List ℕ) (k p : ℕ) → AreBytes bytes → page_id_of bytes k p < 2 ^ 32
number_fits bytes k p are_bytes =
    let own = word_fits bytes (page_id_offset (start bytes k) p) are_bytes in
    let changed = before_fits bytes (suc k) p are_bytes in
    grind arith

words_fit : (bytes : List ℕ) (offset from n i : ℕ) → AreBytes bytes → slice_index (words_from bytes offset from n) i < 2 ^ 32
words_fit bytes offset from n i are_bytes =
    let len = length-words_from bytes offset from n in
    elim (cases_lt i n) [
      | inl less ↦ rw (word_of bytes offset from n i 0 less) (word_fits bytes (offset + (from + 4 * i)) are_bytes)
      | inr more ↦ rw (get_or_past (words_from bytes offset from n) i 0 (omega arith)) (omega arith)
    ]

-- a table
length-table_at : (bytes : List ℕ) (k : ℕ) → length (table_at bytes k) ≡ PAGE_SLOTS
unfolding table_at
length-table_at bytes k = length-map-range_with_len (page_id_of bytes k) 0 PAGE_SLOTS

table_of : (bytes : List ℕ) (k p d : ℕ) → p < PAGE_SLOTS → get_or (table_at bytes k) p d ≡ page_id_of bytes k p
unfolding table_at
table_of bytes k p d lt = get_or-map-range_with_len (page_id_of bytes k) 0 PAGE_SLOTS p p d lt (omega arith)

pub table_made : (bytes table : List ℕ) (k : ℕ) → length table ≡ PAGE_SLOTS → HasPageIds table (page_id_of bytes k) → table ≡ table_at bytes k
unfolding table_at
table_made bytes table k len has = fill_by_all (page_id_of bytes k) table PAGE_SLOTS 0 len has

module _ (bytes : List ℕ) (are_bytes : AreBytes bytes) (meets : Meets bytes) where
  each_byte : IsBytes bytes
  each_byte = all_bytes bytes are_bytes

  module _ (k : ℕ) (lt : k < checkpoints bytes) where
    abbrev o : ℕ
    o = start bytes k

    abbrev c : CheckpointParts
    c = decoded bytes k

    few : FieldsMet k (count_before (fields_of bytes) k) (output_below bytes k) (checkpoint_of bytes o)
    few = checkpoint_holds bytes k meets lt

    room : o + CHANGES_AT ≤ length bytes
    room = common_there bytes k meets lt

    keys_len : length c.devices.keys ≡ word_at bytes (o + WAITING_AT)
    keys_len = length-between bytes (o + KEYS_AT) (o + KEYS_AT + word_at bytes (o + WAITING_AT)) (omega (arith, room, few.waiting)) ∙ omega arith

    sent_len : length c.sent ≡ word_at bytes (o + SENT_AT)
    sent_len = length-between bytes (output_offset bytes + output_below bytes k) _ (output_fits bytes k meets lt) ∙ omega arith

    -- its parts are as their types guarantee, and fit
    formed : IsFormed c
    formed = record {
      registers = length-words_from bytes o REGISTERS_AT 16;
      words = λ a. words_fit bytes o REGISTERS_AT 16 a are_bytes;
      auxiliary = word_fits bytes (o + H_AT) are_bytes;
      devices = record {
        timer = word_fits bytes (o + TIMER_AT) are_bytes;
        rate = later_fits bytes (o + RATE_AT) are_bytes;
        phase = few.phase;
        switches = few.switches;
        leds = few.leds;
        mouse = few.mouse;
        serial = omega (arith, few.serial);
        keys = omega (arith, keys_len, few.waiting);
        codes = All-take (λ code. code < 2 ^ 8) (o + KEYS_AT + word_at bytes (o + WAITING_AT) - (o + KEYS_AT)) (drop (o + KEYS_AT) bytes)
            (All-drop (λ code. code < 2 ^ 8) (o + KEYS_AT) bytes are_bytes);
        disk = disk_fits bytes o are_bytes;
      };
      table = record {
        count = length-table_at bytes k;
        fit = λ p d less. rw (table_of bytes k p d (omega (arith, length-table_at bytes k))) (number_fits bytes k p are_bytes);
      };
      bytes = let from = output_offset bytes + output_below bytes k in
          All-take (λ byte. byte < 2 ^ 8) (from + word_at bytes (o + SENT_AT) - from) (drop from bytes) (All-drop (λ byte. byte < 2 ^ 8) from bytes are_bytes);
    }

    fits : IsWritableWithDisk c
    fits = record {
      formed = formed;
      count = long_fits bytes o are_bytes;
      counter = word_fits bytes (o + PC_AT) are_bytes;
      stop = word_fits bytes (o + STOP_AT) are_bytes;
      sent = omega (arith, sent_len, word_fits bytes (o + SENT_AT) are_bytes);
    }

    -- the fields that begin it are in the file
    fields_are : words_from bytes o H_AT 10 ≡ field_words c
    unfolding words_from
    fields_are =
        let flags = sym (number_back (word_at bytes (o + FLAGS_AT)) few.flags) in
        let serial = sym (serial_whole (word_at bytes (o + SERIAL_AT)) few.serial) in
        let waiting = sym keys_len in
        λ i.
        word_at bytes (o + H_AT) ∷ word_at bytes (o + PC_AT) ∷ flags i ∷ word_at bytes (o + STOP_AT) ∷ word_at bytes (o + TIMER_AT)
        ∷ word_at bytes (o + SWITCHES_AT) ∷ word_at bytes (o + LEDS_AT) ∷ word_at bytes (o + MOUSE_AT) ∷ serial i ∷ waiting i ∷ []

    common_back : HasBytes bytes o (common_bytes c)
    unfolding common_bytes words_from
    common_back =
        let there = room in
        let len = length-words_from bytes o REGISTERS_AT 16 in
        let a = long_bytes c.count in let r = words_bytes c.cpu.r in
        let f = words_bytes (field_words c) in
        let ks = key_bytes c.devices in let n = words_bytes (length c.sent ∷ []) in
        let fields = subst (λ (ws : List ℕ). HasBytes bytes (o + H_AT) (words_bytes ws)) fields_are (words_back bytes o H_AT (o + H_AT) 10 refl each_byte (omega arith)) in
        let sent = subst (λ (x : ℕ). HasBytes bytes (o + SENT_AT) (words_bytes (x ∷ []))) (sym sent_len) (words_back bytes o SENT_AT (o + SENT_AT) 1 refl each_byte (omega arith)) in
        let many : length ks ≡ o + SENT_AT - (o + KEYS_AT) = omega (arith, length-key_bytes c.devices formed.devices.keys) in
        let keys : HasBytes bytes (o + KEYS_AT) ks = record {
          is = ap (λ (m : ℕ). take m (drop (o + KEYS_AT) bytes)) many ∙ rw keys_len (keys-are_at bytes o room few.keys);
        } in
        let la = length-long_bytes c.count in let lr = length-words_bytes c.cpu.r in let lar = length-append a r in
        let lf : length (a ++ r ++ f) ≡ KEYS_AT = length-append (a ++ r) f ∙ omega (arith, length-words_bytes (field_words c)) in
        let lk : length (a ++ r ++ f ++ ks) ≡ SENT_AT = length-append (a ++ r ++ f) ks ∙ omega arith in
        let s1 = bytes_join bytes o (o + REGISTERS_AT) a r (omega arith) (long_back bytes o each_byte (omega arith)) (words_back bytes o REGISTERS_AT (o + REGISTERS_AT) 16 refl each_byte (omega arith)) in
        let s2 = bytes_join bytes o (o + H_AT) (a ++ r) f (omega arith) s1 fields in
        let s3 = bytes_join bytes o (o + KEYS_AT) (a ++ r ++ f) ks (omega arith) s2 keys in
        bytes_join bytes o (o + SENT_AT) (a ++ r ++ f ++ ks) n (omega arith) s3 sent

    -- and so is its table in version 1
    whole_back : version bytes ≡ FIRST_VERSION → HasBytes bytes (o + TABLE_AT) (words_bytes c.table)
    whole_back first =
        let there = whole_there bytes k meets lt first in
        let len = length-words_from bytes o TABLE_AT PAGE_SLOTS in
        let table : words_from bytes o TABLE_AT PAGE_SLOTS ≡ table_at bytes k = table_made bytes (words_from bytes o TABLE_AT PAGE_SLOTS) k len (λ p less.
        let e : o + (TABLE_AT + 4 * p) ≡ page_id_offset o p = omega arith in
        word_of bytes o TABLE_AT PAGE_SLOTS p 0 less ∙ ap (word_at bytes) e ∙ sym (number_first bytes k p first)) in
        subst (λ (ws : List ℕ). HasBytes bytes (o + TABLE_AT) (words_bytes ws)) table (words_back bytes o TABLE_AT (o + TABLE_AT) PAGE_SLOTS refl each_byte (omega arith))

    -- and its changes in version 2, after a table that has the page ids before it
    changes_are : (version bytes == FIRST_VERSION) ≡ false → (before : List ℕ) → HasPageIds before (page_id_before bytes k)
        → (length (changes before c.table) ≡ change_count bytes o) × ((i : ℕ) → i < change_count bytes o → change_in before c.table i ≡ change_of bytes o i)
    unfolding page_id_before
    changes_are second before has =
        lawful-are (change_of bytes o) (change_count bytes o) before c.table (changes_lawful bytes k before meets lt second has) (λ p less.
        table_of bytes k p 0 less ∙ number_second bytes k p second
        ∙ after-same (change_of bytes o) (change_of bytes o) (page_id_before bytes k) (slice_index before) (change_count bytes o) p (λ i _. refl) (sym (has p less)))

    -- the disk's answer
    disk_back : (version bytes == FIRST_VERSION) ≡ false → HasBytes bytes (change_offset o (change_count bytes o)) (words_bytes (disk_words (version bytes) c.devices))
    unfolding words_from
    disk_back second =
        let at = change_offset o (change_count bytes o) in
        let there = changes_there bytes k meets lt second in
        go at there (version bytes == VERSION_WITH_DISK) refl where
          go : (at : ℕ) → at + disk_len (version bytes) ≤ length bytes → (b : Bool) → (version bytes == VERSION_WITH_DISK) ≡ b → HasBytes bytes at (words_bytes (cond b ((cond b (word_at bytes at) UNANSWERED) ∷ []) []))
          go at there true is =
              let inside : at + 4 ≤ length bytes = (rw is at there) in
              let place = sym (ap (word_at bytes) (sym (add-zero at))) in
              subst (λ (x : ℕ). HasBytes bytes at (words_bytes (x ∷ []))) place (words_back bytes at 0 at 1 (omega arith) each_byte (omega arith))
          go at there false is = record { is = refl }

    changed_back : (version bytes == FIRST_VERSION) ≡ false → (before : List ℕ) → HasPageIds before (page_id_before bytes k)
        → HasBytes bytes (o + RATE_AT) (words_bytes (tail_words before c) ++ flat_map change_bytes (changes before c.table) ++ words_bytes (disk_words (version bytes) c.devices))
    unfolding words_from change_bytes
    changed_back second before has =
        let there = changes_there bytes k meets lt second in
        let cs = changes before c.table in let are = changes_are second before has in let len = are.0 in
        let room = common_there bytes k meets lt in
        let word : (i : ℕ) → word_at bytes (o + (RATE_AT + 4 * i)) ≡ word_since_2 bytes (o + (RATE_AT + 4 * i)) = λ i.
        sym (later_second bytes (o + (RATE_AT + 4 * i)) second) in
        let words : words_from bytes o RATE_AT 3 ≡ tail_words before c = λ i. word 0 i ∷ word 1 i ∷ (word 2 ∙ sym len) i ∷ [] in
        let later = subst (λ (ws : List ℕ). HasBytes bytes (o + RATE_AT) (words_bytes ws)) words (words_back bytes o RATE_AT (o + RATE_AT) 3 refl each_byte (omega arith)) in
        let each : EachAt (λ i x. HasBytes bytes (o + CHANGES_AT + CHANGE_LEN * i) (change_bytes x)) cs = λ i d less.
        (let at = change_offset o i in
        let is : get_or cs i d ≡ change_of bytes o i = get_or_default cs i d no_change less ∙ are.1 i (omega arith) in
        let place = sym (ap (word_at bytes) (sym (add-zero at))) in
        subst (λ (x : Change). HasBytes bytes at (change_bytes x)) (sym is)
        (subst (λ (x : ℕ). HasBytes bytes at (words_bytes (x ∷ word_at bytes (at + PAGE_ID_AT) ∷ []))) place (words_back bytes at 0 at 2 (omega arith) each_byte (omega arith)))) in
        let front = words_bytes (tail_words before c) ++ flat_map change_bytes cs in
        let joined = bytes_join bytes (o + RATE_AT) (o + CHANGES_AT) (words_bytes (tail_words before c)) (flat_map change_bytes cs) (omega (arith, length-words_bytes (tail_words before c)))
        later (parts_back change_bytes CHANGE_LEN bytes (o + CHANGES_AT) cs (length-changes cs) each) in
        let long : length front ≡ CHANGES_AT - RATE_AT + CHANGE_LEN * length cs = length-append (words_bytes (tail_words before c)) (flat_map change_bytes cs)
        ∙ omega (arith, length-words_bytes (tail_words before c), length-parts change_bytes CHANGE_LEN cs (length-changes cs)) in
        bytes_join bytes (o + RATE_AT) (change_offset o (change_count bytes o)) front (words_bytes (disk_words (version bytes) c.devices)) (omega (arith, long, len)) joined (disk_back second)

    abbrev v : ℕ
    v = version bytes

    checkpoint_back : (before : List ℕ) → ((v == FIRST_VERSION) ≡ false → HasPageIds before (page_id_before bytes k)) → HasBytes bytes o (checkpoint_bytes v before c)
    unfolding checkpoint_bytes tail_bytes
    checkpoint_back before has =
        let len = length-common_bytes c formed in
        let back : ℕ → Type 0 = λ (n : ℕ). HasBytes bytes o (checkpoint_bytes n before c) in
        elim (version_cases v meets.sized.known) [
          | inl first ↦ subst back (sym first) (bytes_join bytes o (o + TABLE_AT) (common_bytes c) (words_bytes c.table) (omega arith) common_back (whole_back first))
          | inr second ↦
              let tail = words_bytes (tail_words before c) ++ flat_map change_bytes (changes before c.table) ++ words_bytes (disk_words v c.devices) in
              subst (λ (b : Bool). HasBytes bytes o (common_bytes c ++ cond b (words_bytes c.table) tail)) (sym second)
              (bytes_join bytes o (o + RATE_AT) (common_bytes c) tail (omega arith) common_back (changed_back second before (has second)))
        ]

    count_back : (before : List ℕ) → ((v == FIRST_VERSION) ≡ false → HasPageIds before (page_id_before bytes k)) → changes_in v before c ≡ change_count bytes o
    count_back before has =
        elim (version_cases v meets.sized.known) [
          | inl first ↦ rw first refl
          | inr second ↦ let all = (changes_are second before (has second)).0 ∙ later_second bytes (o + CHANGE_COUNT_AT) second in rw second all
        ]

    still : v ≡ FIRST_VERSION → HasStillTimer c
    still first =
        let word : (i : ℕ) → word_since_2 bytes (o + (RATE_AT + 4 * i)) ≡ 0 = λ i. later_first bytes (o + (RATE_AT + 4 * i)) first in
        record { zeros = All-from_recursion (λ x. x ≡ 0) (rate_and_phase c.devices) (word 0, (word 1, tt)) }

  -- the checkpoints
  length-checkpoints_at : (n : ℕ) → length (checkpoints_at bytes n) ≡ n
  length-checkpoints_at n = length-map-range_with_len (decoded bytes) 0 n

  checkpoint_is : (n k : ℕ) (d : CheckpointParts) → k < n → get_or (checkpoints_at bytes n) k d ≡ decoded bytes k
  checkpoint_is n k d lt = get_or-map-range_with_len (decoded bytes) 0 n k k d lt (omega arith)

  numbers_before : (n k : ℕ) → k < n → (version bytes == FIRST_VERSION) ≡ false → HasPageIds (table_before (checkpoints_at bytes n) k) (page_id_before bytes k)
  numbers_before n zero lt second p less = numbers_none bytes p less
  numbers_before n (suc k) lt second p less =
      ap (λ (t : List ℕ). slice_index t p) (table_next (checkpoints_at bytes n) k ∙ ap (λ (x : CheckpointParts). x.table) (checkpoint_is n k no_checkpoint (omega arith)))
      ∙ table_of bytes k p 0 less ∙ number_second bytes k p second

  outputs : (n : ℕ) → n ≤ checkpoints bytes → slice_range bytes (output_offset bytes) (output_offset bytes + output_below bytes n) ≡ output_of (checkpoints_at bytes n)
  outputs zero le =
      let none : output_offset bytes + output_below bytes 0 ≡ output_offset bytes = omega (arith, output_below_none bytes) in
      ap (slice_range bytes (output_offset bytes)) none ∙ between_none bytes (output_offset bytes)
  outputs (suc n) le =
      let from = output_offset bytes + output_below bytes n in
      let more = output_below_more bytes n in let next : n + 1 ≡ suc n = omega arith in
      let end : output_offset bytes + output_below bytes (suc n) ≡ from + word_at bytes (start bytes n + SENT_AT) = ap (λ (m : ℕ). output_offset bytes + output_below bytes m) (sym next) ∙ omega arith in
      ap (slice_range bytes (output_offset bytes)) end
      ∙ output_more bytes n from (checkpoints_at bytes n) (decoded bytes n) meets (omega arith) refl (outputs n (omega arith)) refl
      ∙ ap output_of (sym (map-range_with_len_more (decoded bytes) 0 n n (omega arith)) ∙ ap (checkpoints_at bytes) next)

  -- with its events they make the recording
  module _ (inputs : List Event) (count : length inputs ≡ events bytes) (each_event : EachAt (IsEventAt bytes) inputs) where
    abbrev K : ℕ
    K = checkpoints bytes

    abbrev r : RecordingParts
    r = record { pool = pages_at bytes (pages bytes); inputs = inputs; checkpoints = checkpoints_at bytes K }

    pages_len : length r.pool ≡ pages bytes
    pages_len = length-map-range_with_len (page_at bytes) 0 (pages bytes)

    page_is : (p : ℕ) (d : List ℕ) → p < length r.pool → page_at bytes p ≡ get_or r.pool p d
    page_is p d lt = sym (get_or-map-range_with_len (page_at bytes) 0 (pages bytes) p p d (omega (arith, pages_len)) (omega arith))

    all_pages : ArePages r.pool
    all_pages p d lt = subst IsPage (page_is p d lt) (record {
      whole = length-words_from bytes (page_offset p) 0 256;
      fit = λ i e less. subst (λ (x : ℕ). x < 2 ^ 32) (get_or_default (page_at bytes p) i 0 e less) (words_fit bytes (page_offset p) 0 256 i are_bytes);
    })

    inside : (k : ℕ) → k < length r.checkpoints → k < K
    inside k lt = omega (arith, length-checkpoints_at K)

    all_formed : AreFormed r.checkpoints
    all_formed k d lt = subst IsFormed (sym (checkpoint_is K k d (inside k lt))) (formed k (inside k lt))

    writes : AreWritableWithDisk r
    writes = record {
      pool = all_pages;
      pages = omega (arith, pages_len, word_fits bytes PAGES_AT are_bytes);
      events = omega (arith, word_fits bytes EVENTS_AT are_bytes);
      few = omega (arith, length-checkpoints_at K, word_fits bytes CHECKPOINTS_AT are_bytes);
      checkpoints = λ k d lt. subst IsWritableWithDisk (sym (checkpoint_is K k d (inside k lt))) (fits k (inside k lt));
    }

    start_back : (k : ℕ) → k ≤ K → start_in (version bytes) r k ≡ start bytes k
    unfolding start start_in
    start_back zero le = rw (pages_len, count) refl
    start_back (suc k) le =
        let so_far = start_back k (omega arith) in
        let here = checkpoint_is K k no_checkpoint (omega arith) in
        let size : changes_in (version bytes) (table_before r.checkpoints k) (checkpoint_at r k) ≡ change_count bytes (start bytes k) =
        ap (changes_in (version bytes) (table_before r.checkpoints k)) here ∙ count_back k (omega arith) (table_before r.checkpoints k) (numbers_before K k (omega arith)) in
        ap (λ (m : ℕ). start_in (version bytes) r k + checkpoint_len (version bytes) m) size ∙ ap (λ (m : ℕ). m + checkpoint_len (version bytes) (change_count bytes (start bytes k))) so_far

    event_back : (i : ℕ) (d : Event) → i < length inputs → HasBytes bytes (event_offset bytes i) (event_bytes (get_or inputs i d))
    unfolding event_bytes words_from
    event_back i d lt =
        let at = event_offset bytes i in let e = get_or inputs i d in let is = each_event i d lt in
        let there = events_there bytes meets.sized in let kind = is.kind in let value = is.value in
        let words : words_from bytes at KIND_AT 2 ≡ kind_of e.input ∷ value_of e.input ∷ [] = λ j. kind j ∷ value j ∷ [] in
        bytes_join bytes at (at + KIND_AT) (long_bytes e.count) (words_bytes (kind_of e.input ∷ value_of e.input ∷ [])) (omega (arith, length-long_bytes e.count))
        (subst (λ (x : ℕ). HasBytes bytes at (long_bytes x)) is.count (long_back bytes at each_byte (omega arith)))
        (subst (λ (ws : List ℕ). HasBytes bytes (at + KIND_AT) (words_bytes ws)) words (words_back bytes at KIND_AT (at + KIND_AT) 2 refl each_byte (omega arith)))

    are_at : AreAt (version bytes) bytes r
    unfolding header_bytes words_from
    are_at =
        let sized = meets.sized in let header = sized.header in let there = events_there bytes sized in
        let magic = meets.magic_is in let last = meets.zero_is in let np = sym pages_len in let ne = sym count in
        let nk = sym (length-checkpoints_at K) in
        let words : words_from bytes 0 0 6 ≡ header_words (version bytes) r = λ i. magic i ∷ version bytes ∷ np i ∷ ne i ∷ nk i ∷ last i ∷ [] in
        record {
          header = subst (λ (ws : List ℕ). HasBytes bytes 0 (words_bytes ws)) words (words_back bytes 0 0 0 6 refl each_byte (omega arith));
          pages = λ p d lt. subst (λ (ws : List ℕ). HasBytes bytes (page_offset p) (words_bytes ws)) (page_is p d lt)
              (let len = pages_len in words_back bytes (page_offset p) 0 (page_offset p) 256 (omega arith) each_byte (omega arith));
          events = λ i d lt. rw pages_len (event_back i d lt);
          checkpoints = λ k lt.
              let less = inside k lt in
              rw (start_back k (omega arith), checkpoint_is K k no_checkpoint less) (checkpoint_back k less (table_before r.checkpoints k) (numbers_before K k less));
          output = rw (length-checkpoints_at K, start_back K (omega arith))
              (output_all bytes K (output_offset bytes + output_below bytes K) (checkpoints_at bytes K) meets refl refl (outputs K (omega arith)));
        }

    pub decoded_is : IsLawfulWithDisk r × TextWithDisk bytes r
    decoded_is =
        let v = version bytes in let known = meets.sized.known in
        let is = parts_encoding v r all_pages all_formed bytes are_at in
        let all_unclocked : v ≡ FIRST_VERSION → All HasStillTimer r.checkpoints = λ first k d lt.
        subst HasStillTimer (sym (checkpoint_is K k d (inside k lt))) (still k (inside k lt) first) in
        let faultless = sym (encoding_agrees v r known all_unclocked writes) ∙ ap first_fault_with_disk (sym is) ∙ meets.faultless in
        let lawful = faultless_lawful v r known all_pages (events_ordered bytes inputs meets count each_event) all_formed faultless in
        let none_of_disk : (v == VERSION_WITH_DISK) ≡ false → All (λ e. ¬ (IsOfDisk e)) inputs = λ other i d lt of_disk.
        (let one = each_holds (event_rules (fields_of bytes)) (events bytes) i (subst (λ (n : ℕ). i < n) count lt) meets.events_meet in
        let kind = and_right _ _ (none_hold (event_rules (fields_of bytes) i) one).0 in
        no_disk v (word_at bytes (event_offset bytes i + KIND_AT)) other kind ((each_event i d lt).kind ∙ of_disk)) in
        let quiet : (v == VERSION_WITH_DISK) ≡ false → All IsUnanswered r.checkpoints = λ other k d lt.
        subst IsUnanswered (sym (checkpoint_is K k d (inside k lt))) (rw other refl) in
        let few : (v == VERSION_WITH_DISK) ≡ false → length inputs ≤ MAX_EVENTS = λ other.
        few_events v (length inputs) other
        (subst (λ (n : ℕ). n ≤ max_events v) (sym count) (header_within (fields_of bytes) (met_parts (fields_of bytes) meets.faultless).header).events) in (
          lawful,
          record {
            version = v;
            is = record {
              lawful = lawful;
              known = known;
              still = all_unclocked;
              plain = λ other. record { few = few other; unanswered = record { inputs = none_of_disk other; checkpoints = quiet other } };
              is = is;
            };
          },
        )
