-- The parts of an encoding at their offsets.
use Rattle.oberon_format.proofs.Common.{[], All-from_recursion, ap, AreFormed, ArePages, AreWritableWithDisk, arith, Bool, cases_lt, Change, change_bytes, CHANGE_LEN, changes, CHANGES_AT, changes_in, checkpoint_at, checkpoint_bytes, CHECKPOINT_LEN, checkpoint_len, CheckpointParts, checkpoints_bytes, common_bytes, COMMON_LEN, cond, DeviceState, drop, drop_at, EachAt, encoding, Event, event_bytes, EVENT_LEN, event_start, false, field_words, FIRST_VERSION, flat_map, get_or, get_or_default, header_bytes, HEADER_LEN, inl, inr, is_phase, is_version_with_disk, IsFormed, IsLawfulWithDisk, IsPhase, IsTable, IsWritableWithDisk, key_bytes, tail_words, length, length-append, length-replicate, List, MAGIC, MAX_KEYS, mouse_word_fits, nat_tests, no_change, no_checkpoint, output_of, PAGE_LEN, page_offset, RecordingParts, refl, start_in, subst, suc, sym, table_before, tail_bytes, take, take-append-drop, IsEncoding, true, VERSION_WITH_DISK, words_bytes, zero, ℕ, ◌*◌, ◌++◌, ◌+◌, ◌<◌, ◌==◌, ◌^◌, ◌∙◌, ◌∷◌, ◌≡◌, ◌≤◌, disk_words, disk_len, DISK_LEN, IsPlain}
use Rattle.oberon_format.proofs.Bytes.{AreWide, HasBytes, HaveLength, bytes_whole, bytes_join, bytes_left, bytes_right, length-long_bytes, length-parts, length-word_bytes, length-words_bytes, parts_back, parts_read}
use Rattle.oberon_format.proofs.ChangeLemmas.{change_in, changes-lawful, changes-new}
use Rattle.oberon_format.proofs.LawfulLemmas.{flags_fit, lawful_formed, serial_fits}
use Rattle.oberon_format.proofs.RuleLemmas.{version_small}
use Rattle.oberon_format.proofs.WriteLemmas.{sent_le}

-- the lengths of the parts
length-header_bytes : (v : ℕ) (r : RecordingParts) → length (header_bytes v r) ≡ HEADER_LEN
unfolding header_bytes
length-header_bytes v r = simp (length-append, length-word_bytes)

pub length-changes : (cs : List Change) → HaveLength change_bytes CHANGE_LEN cs
unfolding change_bytes
length-changes cs i d lt = simp (length-append, length-word_bytes)

pub length-events : (es : List Event) → HaveLength event_bytes EVENT_LEN es
unfolding event_bytes
length-events es i d lt = simp (length-append, length-long_bytes, length-word_bytes)

pub length-pages : (pool : List (List ℕ)) → ArePages pool → HaveLength words_bytes PAGE_LEN pool
length-pages pool pages i d lt = let whole = (pages i d lt).whole in omega (arith, length-words_bytes (get_or pool i d))

pub length-key_bytes : (d : DeviceState) → length d.keys ≤ MAX_KEYS → length (key_bytes d) ≡ MAX_KEYS
length-key_bytes d few = simp (length-append, length-replicate) (omega arith)

pub length-common_bytes : (c : CheckpointParts) → IsFormed c → length (common_bytes c) ≡ COMMON_LEN
unfolding common_bytes
length-common_bytes c formed =
    let registers = formed.registers in let few = formed.devices.keys in
    simp (length-append, length-long_bytes, length-word_bytes, length-words_bytes, length-replicate) (omega arith)

pub length-disk_words : (v : ℕ) (d : DeviceState) → length (words_bytes (disk_words v d)) ≡ disk_len v
length-disk_words v d = go (v == VERSION_WITH_DISK) where
  go : (b : Bool) → length (words_bytes (cond b (d.disk ∷ []) [])) ≡ cond b DISK_LEN 0
  go true = length-words_bytes (d.disk ∷ [])
  go false = refl

pub length-checkpoint_bytes : (v : ℕ) (before : List ℕ) (c : CheckpointParts) → IsFormed c → length (checkpoint_bytes v before c) ≡ checkpoint_len v (changes_in v before c)
unfolding checkpoint_bytes tail_bytes
length-checkpoint_bytes v before c formed = go (v == FIRST_VERSION) where
  go : (b : Bool) → length (common_bytes c ++ cond b (words_bytes c.table) (words_bytes (tail_words before c) ++ flat_map change_bytes (changes before c.table) ++ words_bytes (disk_words v c.devices)))
      ≡ cond b CHECKPOINT_LEN (CHANGES_AT + CHANGE_LEN * cond b 0 (length (changes before c.table)) + disk_len v)
  go true =
      let front = length-common_bytes c formed in let table = formed.table.count in
      simp (length-append, length-words_bytes) (omega arith)
  go false =
      let front = length-common_bytes c formed in
      let all = length-parts change_bytes CHANGE_LEN (changes before c.table) (length-changes (changes before c.table)) in
      let last = length-disk_words v c.devices in
      simp (length-append, length-word_bytes) (omega arith)

-- checkpoint k of parts
abbrev pub bytes_of : ℕ → RecordingParts → ℕ → List ℕ
bytes_of v r k = checkpoint_bytes v (table_before r.checkpoints k) (checkpoint_at r k)

-- parts are in a file at the offsets that they have in an encoding
pub record AreAt (v : ℕ) (bytes : List ℕ) (r : RecordingParts) : Type 0 where
  pub header : HasBytes bytes 0 (header_bytes v r)
  pub pages : EachAt (λ p page. HasBytes bytes (page_offset p) (words_bytes page)) r.pool
  pub events : EachAt (λ i e. HasBytes bytes (event_start (length r.pool) i) (event_bytes e)) r.inputs
  pub checkpoints : (k : ℕ) → k < length r.checkpoints → HasBytes bytes (start_in v r k) (bytes_of v r k)
  pub output : drop (start_in v r (length r.checkpoints)) bytes ≡ output_of r.checkpoints

module _ (v : ℕ) (r : RecordingParts) (paged : ArePages r.pool) (formed : AreFormed r.checkpoints) where
  abbrev H : List ℕ
  H = header_bytes v r

  abbrev P : List ℕ
  P = flat_map words_bytes r.pool

  abbrev E : List ℕ
  E = flat_map event_bytes r.inputs

  abbrev C : List ℕ
  C = checkpoints_bytes v r.checkpoints (length r.checkpoints)

  -- checkpoints, each of its own length
  length-blocks : (n : ℕ) → n ≤ length r.checkpoints → start_in v r n ≡ start_in v r 0 + length (checkpoints_bytes v r.checkpoints n)
  unfolding start_in checkpoints_bytes
  length-blocks zero le = omega arith
  length-blocks (suc n) le =
      let so_far = length-blocks n (omega arith) in
      omega (arith, length-checkpoint_bytes v (table_before r.checkpoints n) (checkpoint_at r n) (formed n no_checkpoint (omega arith)), length-append (checkpoints_bytes v r.checkpoints n) (bytes_of v r n))

  blocks_read : (bytes : List ℕ) (n : ℕ) → n ≤ length r.checkpoints → HasBytes bytes (start_in v r 0) (checkpoints_bytes v r.checkpoints n)
      → (k : ℕ) → k < n → HasBytes bytes (start_in v r k) (bytes_of v r k)
  unfolding checkpoints_bytes
  blocks_read bytes zero le s k lt = absurd (omega arith)
  blocks_read bytes (suc n) le s k lt =
      let so_far = checkpoints_bytes v r.checkpoints n in
      elim (cases_lt k n) [
        | inl less ↦ blocks_read bytes n (omega arith) (bytes_left bytes (start_in v r 0) so_far (bytes_of v r n) s) k less
        | inr more ↦
            let e : n ≡ k = omega arith in
            subst (λ (i : ℕ). HasBytes bytes (start_in v r i) (bytes_of v r i)) e
            (bytes_right bytes (start_in v r 0) (start_in v r n) so_far (bytes_of v r n) (length-blocks n (omega arith)) s)
      ]

  blocks_back : (bytes : List ℕ) (n : ℕ) → n ≤ length r.checkpoints → ((k : ℕ) → k < n → HasBytes bytes (start_in v r k) (bytes_of v r k))
      → HasBytes bytes (start_in v r 0) (checkpoints_bytes v r.checkpoints n)
  unfolding checkpoints_bytes
  blocks_back bytes zero le each = record { is = refl }
  blocks_back bytes (suc n) le each =
      bytes_join bytes (start_in v r 0) (start_in v r n) (checkpoints_bytes v r.checkpoints n) (bytes_of v r n) (length-blocks n (omega arith))
      (blocks_back bytes n (omega arith) (λ k lt. each k (omega arith))) (each n (omega arith))

  -- where each group of parts ends
  record Ends : Type 0 where
    pages : page_offset (length r.pool) ≡ length (H ++ P)
    events : start_in v r 0 ≡ length (H ++ P ++ E)
    checkpoints : start_in v r (length r.checkpoints) ≡ length (H ++ P ++ E ++ C)

  ends : Ends
  unfolding start_in
  ends =
      let h = length-header_bytes v r in
      let p = length-parts words_bytes PAGE_LEN r.pool (length-pages r.pool paged) in
      let e = length-parts event_bytes EVENT_LEN r.inputs (length-events r.inputs) in
      let c = length-blocks (length r.checkpoints) (omega arith) in
      omega (arith, length-append H P, length-append (H ++ P) E, length-append (H ++ P ++ E) C)

  -- those of an encoding are there
  pub encoding_parts : AreAt v (encoding v r) r
  unfolding encoding
  encoding_parts =
      let bytes = H ++ P ++ E ++ C ++ output_of r.checkpoints in
      let s4 = bytes_left bytes 0 (H ++ P ++ E ++ C) (output_of r.checkpoints) (bytes_whole bytes) in
      let s3 = bytes_left bytes 0 (H ++ P ++ E) C s4 in
      let s2 = bytes_left bytes 0 (H ++ P) E s3 in
      record {
        header = bytes_left bytes 0 H P s2;
        pages = parts_read words_bytes PAGE_LEN bytes HEADER_LEN r.pool (length-pages r.pool paged) (bytes_right bytes 0 HEADER_LEN H P (omega (arith, length-header_bytes v r)) s2);
        events = parts_read event_bytes EVENT_LEN bytes (page_offset (length r.pool)) r.inputs (length-events r.inputs)
            (bytes_right bytes 0 (page_offset (length r.pool)) (H ++ P) E (omega (arith, ends.pages)) s3);
        checkpoints = blocks_read bytes (length r.checkpoints) (omega arith) (bytes_right bytes 0 (start_in v r 0) (H ++ P ++ E) C (omega (arith, ends.events)) s4);
        output = drop_at (H ++ P ++ E ++ C) (output_of r.checkpoints) (start_in v r (length r.checkpoints)) (sym ends.checkpoints);
      }

  -- and so is its length
  pub length-encoding : length (encoding v r) ≡ start_in v r (length r.checkpoints) + length (output_of r.checkpoints)
  unfolding encoding
  length-encoding = let all = ends.checkpoints in omega (arith, length-append (H ++ P ++ E ++ C) (output_of r.checkpoints))

  -- a file in which they are is the encoding
  pub parts_encoding : (bytes : List ℕ) → AreAt v bytes r → bytes ≡ encoding v r
  unfolding encoding
  parts_encoding bytes are =
      let n = start_in v r (length r.checkpoints) in
      let p = parts_back words_bytes PAGE_LEN bytes HEADER_LEN r.pool (length-pages r.pool paged) are.pages in
      let e = parts_back event_bytes EVENT_LEN bytes (page_offset (length r.pool)) r.inputs (length-events r.inputs) are.events in
      let c = blocks_back bytes (length r.checkpoints) (omega arith) are.checkpoints in
      let hp = bytes_join bytes 0 HEADER_LEN H P (omega (arith, length-header_bytes v r)) are.header p in
      let hpe = bytes_join bytes 0 (page_offset (length r.pool)) (H ++ P) E (omega (arith, ends.pages)) hp e in
      let all = bytes_join bytes 0 (start_in v r 0) (H ++ P ++ E) C (omega (arith, ends.events)) hpe c in
      sym (take-append-drop n bytes) ∙ ap (λ (m : ℕ). take m bytes ++ drop n bytes) ends.checkpoints ∙ ap (λ (l : List ℕ). l ++ drop n bytes) all.is
      ∙ ap (λ (l : List ℕ). H ++ P ++ E ++ C ++ l) are.output

-- a phase is a number of four bytes, as its rate is
phase_fits : (rate phase : ℕ) → rate < 2 ^ 32 → IsPhase rate phase → phase < 2 ^ 32
unfolding is_phase
phase_fits rate phase small fits = grind (arith, nat_tests)

-- the words of a checkpoint whose numbers fit
pub fields_wide : (c : CheckpointParts) → IsWritableWithDisk c → AreWide (field_words c)
fields_wide c fits =
    let devices = fits.formed.devices in
    All-from_recursion (λ x. x < 2 ^ 32) (field_words c)
    (omega (arith, fits, devices, flags_fit c.cpu, mouse_word_fits c.devices.mouse devices.mouse, serial_fits c.devices devices))

pub later_wide : (before : List ℕ) (c : CheckpointParts) → IsWritableWithDisk c → length (changes before c.table) < 2 ^ 32 → AreWide (tail_words before c)
later_wide before c fits few =
    let devices = fits.formed.devices in
    All-from_recursion (λ x. x < 2 ^ 32) (tail_words before c) (omega (arith, devices, phase_fits c.devices.rate c.devices.phase devices.rate devices.phase, few))

abbrev pub header_words : ℕ → RecordingParts → List ℕ
header_words v r = MAGIC ∷ v ∷ length r.pool ∷ length r.inputs ∷ length r.checkpoints ∷ 0 ∷ []

pub header_wide : (v : ℕ) (r : RecordingParts) → is_version_with_disk v ≡ true → AreWritableWithDisk r → AreWide (header_words v r)
header_wide v r known fits =
    let small = version_small v known in
    All-from_recursion (λ x. x < 2 ^ 32) (header_words v r) (omega (arith, small, fits))

abbrev pub change_words : Change → List ℕ
change_words change = change.slot ∷ change.page_id ∷ []

pub change_wide : (before table : List ℕ) → IsTable table → (i : ℕ) (d : Change) → i < length (changes before table) → AreWide (change_words (get_or (changes before table) i d))
change_wide before table fits i d lt =
    let change = change_in before table i in
    let inside = (changes-lawful before table).inside i lt in
    let small = fits.fit change.slot 0 (omega (arith, inside, fits.count)) in
    subst (λ (c : Change). AreWide (change_words c)) (get_or_default (changes before table) i no_change d lt)
    (All-from_recursion (λ x. x < 2 ^ 32) (change_words change) (omega (arith, inside, small, changes-new before table i lt)))

-- the numbers of a lawful recording fit
pub writable : (r : RecordingParts) → IsLawfulWithDisk r → AreWritableWithDisk r
writable r p = record {
  pool = p.pool;
  pages = omega (arith, p.pages);
  events = omega (arith, p.events);
  few = omega (arith, p.few);
  checkpoints = λ i d h.
      let fit = p.fit i h in
      let here : IsWritableWithDisk (checkpoint_at r i) = record {
        formed = lawful_formed r p i no_checkpoint h;
        count = omega (arith, fit.bounded);
        counter = omega (arith, fit.cpu.counter);
        stop = omega (arith, fit.cpu.stops);
        sent = omega (arith, sent_le r.checkpoints i no_checkpoint h, p.output);
      } in
      subst IsWritableWithDisk (get_or_default r.checkpoints i no_checkpoint d h) here;
}

-- a lawful recording has an encoding in each version after the first that has a field for all that it has
pub encoded : (v : ℕ) (r : RecordingParts) → is_version_with_disk v ≡ true → (v == FIRST_VERSION) ≡ false → IsLawfulWithDisk r
    → ((v == VERSION_WITH_DISK) ≡ false → IsPlain r) → IsEncoding v (encoding v r) r
encoded v r known later lawful plain = record {
  lawful = lawful;
  known = known;
  still = λ first. absurd (grind (arith, nat_tests));
  plain = plain;
  is = refl;
}

-- the parts of a file's recording are in it
pub encoded_parts : (v : ℕ) (bytes : List ℕ) (r : RecordingParts) → IsEncoding v bytes r → AreAt v bytes r
encoded_parts v bytes r is = subst (λ (bytes : List ℕ). AreAt v bytes r) (sym is.is) (encoding_parts v r is.lawful.pool (lawful_formed r is.lawful))
