-- The laws of recordings and their files. A file without a fault is that of a recording.
use Rattle.oberon_format.proofs.Common.{All-append, All-cons, All-nil, All-replicate, ap, AreBytes, AreFormed, AreWritableWithDisk, arith, byte_at, bytes_low_first, change_bytes, changes, checkpoint_bytes, CheckpointParts, checkpoints, checkpoints_at, checkpoints_bytes, common_bytes, disk_words, EachAt, encoding, Event, event_bytes, event_offset, events, false, fields_of, Fault, field_words, first_fault_of, first_fault_with_disk, FIRST_VERSION, flat_map, get_or, header_bytes, input_of, IsEventAt, IsFormed, KIND_AT, kind_of, kind_of-input_of, length, length-append, List, long_at, long_bytes, MatchOption, Meets, no_checkpoint, None, Option, pages, pages_at, RecordingParts, refl, slice_index_or, Some, suc, sym, table_before, tail_bytes, tail_words, Text, TextWithDisk, VALUE_AT, value_of, value_of-input_of, version_rules, word_at, word_bytes, words_bytes, zero, [], ℕ, ◌++◌, ◌+◌, ◌-◌, ◌<◌, ◌==◌, ◌^◌, ◌∙◌, ◌∷◌, ◌≡◌, ◌≤◌}
use Rattle.oberon_format.proofs.Agree.{encoding_agrees}
use Rattle.oberon_format.proofs.Decode.{decoded_is, long_fits}
use Rattle.oberon_format.proofs.Bytes.{each_push}
use Rattle.oberon_format.proofs.Encoded.{writable, header_words}
use Rattle.oberon_format.proofs.LawfulLemmas.{lawful_faultless}
use Rattle.oberon_format.proofs.PlainLemmas.{fault_other, met_version, text_version, with_disk, without_disk}
use Rattle.oberon_format.specs.Rules.{rules}
use Rattle.oberon_format.proofs.RuleLemmas.{met_left, none_meets, event_input}

-- the first n events
record Events (bytes : List ℕ) (n : ℕ) : Type 0 where
  list : List Event
  count : length list ≡ n
  stand : EachAt (IsEventAt bytes) list

event_made : (bytes : List ℕ) (i : ℕ) → AreBytes bytes → Meets bytes → i < events bytes → (e : Event) × IsEventAt bytes i e
event_made bytes i are_bytes meets lt =
    let offset = event_offset bytes i in let kind = word_at bytes (offset + KIND_AT) in
    let value = word_at bytes (offset + VALUE_AT) in
    let lawful = event_input bytes i meets lt in (
      record { count = long_at bytes offset; input = input_of kind value lawful; range = long_fits bytes offset are_bytes },
      record { count = refl; kind = sym (kind_of-input_of kind value lawful); value = sym (value_of-input_of kind value lawful) },
    )

events_of : (bytes : List ℕ) (n : ℕ) → AreBytes bytes → Meets bytes → n ≤ events bytes → Events bytes n
events_of bytes zero are_bytes meets le = record { list = []; count = refl; stand = λ i d lt. absurd (omega arith) }
events_of bytes (suc n) are_bytes meets le =
    let so_far = events_of bytes n are_bytes meets (omega arith) in let count = so_far.count in
    let made = event_made bytes n are_bytes meets (omega arith) in
    record {
      list = so_far.list ++ made.0 ∷ [];
      count = omega (arith, length-append so_far.list (made.0 ∷ []));
      stand = each_push (IsEventAt bytes) so_far.list n made.0 so_far.count so_far.stand made.1;
    }

-- a file without a fault has a recording
has_recording : (bytes : List ℕ) → AreBytes bytes → Meets bytes → (r : RecordingParts) × TextWithDisk bytes r
has_recording bytes are_bytes meets =
    let es = events_of bytes (events bytes) are_bytes meets (omega arith) in (
      record { pool = pages_at bytes (pages bytes); inputs = es.list; checkpoints = checkpoints_at bytes (checkpoints bytes) },
      (decoded_is bytes are_bytes meets es.list es.count es.stand).1,
    )

-- a file has a recording or a first fault
pub by_fault : (bytes : List ℕ) (o : Option Fault) → AreBytes bytes → first_fault_with_disk bytes ≡ o
    → MatchOption o ((r : RecordingParts) × TextWithDisk bytes r) (λ fault. (r : RecordingParts) → ¬ (TextWithDisk bytes r))
by_fault bytes None are_bytes e = has_recording bytes are_bytes (none_meets bytes e)
by_fault bytes (Some f) are_bytes e = λ r is.
    let file = is.is in
    let none : first_fault_with_disk bytes ≡ None = ap first_fault_with_disk file.is ∙ encoding_agrees is.version r file.known file.still (writable r file.lawful) ∙ lawful_faultless is.version r file.known file.lawful file.plain in
    absurd cc

-- the same without a disk
pub by_plain_fault : (bytes : List ℕ) (o : Option Fault) → AreBytes bytes → first_fault_of bytes ≡ o
    → MatchOption o ((r : RecordingParts) × Text bytes r) (λ fault. (r : RecordingParts) → ¬ (Text bytes r))
by_plain_fault bytes None are_bytes e =
    let other = met_version bytes (met_left (version_rules (fields_of bytes)) (rules (fields_of bytes)) e) in
    let some = has_recording bytes are_bytes (none_meets bytes (sym (fault_other bytes other) ∙ e)) in
    (some.0, without_disk bytes some.0 other some.1)
by_plain_fault bytes (Some f) are_bytes e = λ r text.
    let same = sym (fault_other bytes (text_version bytes r text)) ∙ e in
    by_fault bytes (Some f) are_bytes same r (with_disk bytes r text)

-- the bytes of numbers are bytes
byte_small : (i n : ℕ) → byte_at i n < 2 ^ 8
byte_small zero n = omega arith
byte_small (suc i) n = omega arith

low_bytes : (i k n : ℕ) → AreBytes (bytes_low_first i k n)
low_bytes i zero n = All-nil (λ byte. byte < 2 ^ 8)
low_bytes i (suc k) n = All-cons (λ byte. byte < 2 ^ 8) _ (bytes_low_first (suc i) k n) (byte_small i n) (low_bytes (suc i) k n)

join : (xs ys : List ℕ) → AreBytes xs → AreBytes ys → AreBytes (xs ++ ys)
join xs ys a b = All-append (λ byte. byte < 2 ^ 8) xs ys a b

all_are : {X : Type 0} (f : X → List ℕ) (xs : List X) → ((i : ℕ) (d : X) → i < length xs → AreBytes (f (get_or xs i d))) → AreBytes (flat_map f xs)
all_are {X} f [] each = All-nil (λ byte. byte < 2 ^ 8)
all_are {X} f (x ∷ xs) each = join (f x) (flat_map f xs) (each 0 x (omega arith)) (all_are f xs (λ i d lt. each (suc i) d (omega arith)))

words_are : (xs : List ℕ) → AreBytes (words_bytes xs)
unfolding word_bytes
words_are xs = all_are word_bytes xs (λ i d lt. low_bytes 0 4 (get_or xs i d))

long_are : (x : ℕ) → AreBytes (long_bytes x)
unfolding long_bytes
long_are x = low_bytes 0 8 x

common_are : (c : CheckpointParts) → IsFormed c → AreBytes (common_bytes c)
unfolding common_bytes
common_are c fits =
    let keys = join _ _ fits.devices.codes (All-replicate (λ byte. byte < 2 ^ 8) (16 - length c.devices.keys) 0 (omega arith)) in
    join _ _ (join _ _ (join _ _ (join _ _ (long_are _) (words_are c.cpu.r)) (words_are (field_words c))) keys) (words_are (length c.sent ∷ []))

checkpoint_are : (v : ℕ) → (v == FIRST_VERSION) ≡ false → (before : List ℕ) (c : CheckpointParts) → IsFormed c → AreBytes (checkpoint_bytes v before c)
unfolding checkpoint_bytes tail_bytes change_bytes
checkpoint_are v later before c fits = rw later (join _ _ (common_are c fits) (join _ _ (join _ _ (words_are (tail_words before c)) (all_are change_bytes (changes before c.table) (λ i d lt. let change = get_or (changes before c.table) i d in words_are (change.slot ∷ change.page_id ∷ [])))) (words_are (disk_words v c.devices))))

checkpoints_are : (v : ℕ) → (v == FIRST_VERSION) ≡ false → (cs : List CheckpointParts) → AreFormed cs → (n : ℕ) → n ≤ length cs → AreBytes (checkpoints_bytes v cs n)
unfolding checkpoints_bytes
checkpoints_are v later cs formed zero le = All-nil (λ byte. byte < 2 ^ 8)
checkpoints_are v later cs formed (suc n) le =
    join _ _ (checkpoints_are v later cs formed n (omega arith)) (checkpoint_are v later (table_before cs n) (slice_index_or cs n no_checkpoint) (formed n no_checkpoint (omega arith)))

-- parts whose numbers fit are encoded in bytes
pub file_of_parts : (v : ℕ) → (v == FIRST_VERSION) ≡ false → (r : RecordingParts) → AreWritableWithDisk r → AreBytes (encoding v r)
unfolding encoding header_bytes event_bytes
file_of_parts v later r fits =
    let formed : AreFormed r.checkpoints = λ i d lt. (fits.checkpoints i d lt).formed in
    let pages = all_are words_bytes r.pool (λ i d lt. words_are (get_or r.pool i d)) in
    let events = all_are event_bytes r.inputs (λ i d lt. let e = get_or r.inputs i d in join _ _ (long_are e.count) (words_are (kind_of e.input ∷ value_of e.input ∷ []))) in
    let output = all_are (λ (c : CheckpointParts). c.sent) r.checkpoints (λ i d lt. (formed i d lt).bytes) in
    join _ _ (join _ _ (join _ _ (join _ _ (words_are (header_words v r)) pages) events) (checkpoints_are v later r.checkpoints formed (length r.checkpoints) (omega arith))) output
