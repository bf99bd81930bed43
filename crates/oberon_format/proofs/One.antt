-- A file is that of at most one recording: an encoding determines what it encodes, and where it ends.
use Rattle.oberon_format.proofs.Common.{Text, [], All, ap, AreWritableWithDisk, arith, checkpoint_at, CheckpointParts, rate_and_phase, DeviceState, drop, drop_at, Event, field_words, FIRST_VERSION, Flags, flags_back, flags_number, flags_of, get_or, get_or_default, Input, is_version_with_disk, IsUnanswered, HasStillTimer, VERSION_WITH_DISK, false, ◌==◌, key_bytes, length, List, MAX_KEYS, no_checkpoint, output_of, props, RecordingParts, refl, replicate, same_devices, same_input, same_lists, slice_index, start, start_in, subst, suc, sym, take, take_at, TextWithDisk, IsEncoding, true, version, zero, ℕ, ◌-◌, ◌<◌, ◌^◌, ◌∙◌, ◌∷◌, ◌≡◌}
use Rattle.oberon_format.proofs.Agree.{version_of, pages_are, events_are, checkpoints_are, page_is, event_is, start_is, later, common, disk_is, numbers_agree}
use Rattle.oberon_format.proofs.Encoded.{AreAt, encoded_parts, writable}
use Rattle.oberon_format.proofs.PlainLemmas.{with_disk}

-- events of one count and one input
event_of_parts : (count : ℕ) (input : Input) → count < 2 ^ 64 → Event
event_of_parts count input range = record { count = count; input = input; range = range }

pub same_event : (e f : Event) → e.count ≡ f.count → e.input ≡ f.input → e ≡ f
unfolding event_of_parts
same_event e f counts inputs =
    let facts : IsProp (e.count < 2 ^ 64) = hlevel props in
    let Q : ℕ → Type 0 = λ n. (r : n < 2 ^ 64) → event_of_parts e.count e.input e.range ≡ event_of_parts n e.input r in
    let base : Q e.count = λ r. ap (event_of_parts e.count e.input) (facts e.range r) in
    let P : Input → Type 0 = λ i. event_of_parts e.count e.input e.range ≡ event_of_parts f.count i f.range in
    subst P inputs (subst Q counts base f.range)

-- flags of one number
same_flags : (f g : Flags) → flags_number f ≡ flags_number g → f ≡ g
same_flags f g number = sym (flags_back f) ∙ ap flags_of number ∙ flags_back g

-- keys of one number, with zeros after them
same_keys : (a b : DeviceState) → length a.keys ≡ length b.keys → key_bytes a ≡ key_bytes b → a.keys ≡ b.keys
same_keys a b len same =
    sym (take_at a.keys (replicate (MAX_KEYS - length a.keys) 0) (length b.keys) len) ∙ ap (take (length b.keys)) same ∙ take_at b.keys (replicate (MAX_KEYS - length b.keys) 0) (length b.keys) refl

-- lists with one list of bytes each that are equal in all
same_sent : (cs ds : List CheckpointParts) → length cs ≡ length ds → ((i : ℕ) → i < length cs → length (get_or cs i no_checkpoint).sent ≡ length (get_or ds i no_checkpoint).sent)
    → output_of cs ≡ output_of ds → (i : ℕ) → i < length cs → (get_or cs i no_checkpoint).sent ≡ (get_or ds i no_checkpoint).sent
same_sent [] ds len each same i lt = absurd (omega arith)
same_sent (c ∷ cs) [] len each same i lt = absurd (omega arith)
same_sent (c ∷ cs) (d ∷ ds) len each same zero lt =
    let first : length c.sent ≡ length d.sent = each 0 (omega arith) in
    sym (take_at c.sent (output_of cs) (length d.sent) first) ∙ ap (take (length d.sent)) same ∙ take_at d.sent (output_of ds) (length d.sent) refl
same_sent (c ∷ cs) (d ∷ ds) len each same (suc i) lt =
    let first : length c.sent ≡ length d.sent = each 0 (omega arith) in
    let rest : output_of cs ≡ output_of ds = sym (drop_at c.sent (output_of cs) (length d.sent) first) ∙ ap (drop (length d.sent)) same ∙ drop_at d.sent (output_of ds) (length d.sent) refl in
    same_sent cs ds (omega arith) (λ k less. each (suc k) (omega arith)) rest i (omega arith)

-- what a file has at its offsets is that of one recording
module _ (v : ℕ) (bytes : List ℕ) (r s : RecordingParts) (known : is_version_with_disk v ≡ true) (still : v ≡ FIRST_VERSION → All HasStillTimer r.checkpoints)
    (still' : v ≡ FIRST_VERSION → All HasStillTimer s.checkpoints) (quiet : (v == VERSION_WITH_DISK) ≡ false → All IsUnanswered r.checkpoints)
    (quiet' : (v == VERSION_WITH_DISK) ≡ false → All IsUnanswered s.checkpoints) (fr : AreWritableWithDisk r) (fs : AreWritableWithDisk s) (a : AreAt v bytes r) (b : AreAt v bytes s) where
  pages_len : length r.pool ≡ length s.pool
  pages_len = sym (pages_are v bytes r known fr a) ∙ pages_are v bytes s known fs b

  events_len : length r.inputs ≡ length s.inputs
  events_len = sym (events_are v bytes r known fr a) ∙ events_are v bytes s known fs b

  len : length r.checkpoints ≡ length s.checkpoints
  len = sym (checkpoints_are v bytes r known fr a) ∙ checkpoints_are v bytes s known fs b

  outputs : output_of r.checkpoints ≡ output_of s.checkpoints
  outputs =
      let end : start_in v r (length r.checkpoints) ≡ start_in v s (length s.checkpoints) =
      sym (start_is v bytes r known fr a still (length r.checkpoints) (omega arith)) ∙ ap (start bytes) len ∙ start_is v bytes s known fs b still' (length s.checkpoints) (omega arith) in
      sym a.output ∙ ap (λ (p : ℕ). drop p bytes) end ∙ b.output

  sent : (k : ℕ) → k < length r.checkpoints → (checkpoint_at r k).sent ≡ (checkpoint_at s k).sent
  sent = same_sent r.checkpoints s.checkpoints len
      (λ k lt. sym (common v bytes r known fr a still k lt).sent ∙ (common v bytes s known fs b still' k (subst (λ (n : ℕ). k < n) len lt)).sent) outputs

  checkpoint_same : (k : ℕ) → k < length r.checkpoints → checkpoint_at r k ≡ checkpoint_at s k
  checkpoint_same k lt =
      let lt' : k < length s.checkpoints = subst (λ (n : ℕ). k < n) len lt in
      let c = checkpoint_at r k in let d = checkpoint_at s k in
      let fc = (fr.checkpoints k no_checkpoint lt).formed in
      let fd = (fs.checkpoints k no_checkpoint lt').formed in
      let x = common v bytes r known fr a still k lt in
      let y = common v bytes s known fs b still' k lt' in
      let later_x = later v bytes r known fr a still k lt in
      let later_y = later v bytes s known fs b still' k lt' in
      let field : (i : ℕ) → slice_index (field_words c) i ≡ slice_index (field_words d) i = λ i. ap (λ (ws : List ℕ). slice_index ws i) (sym x.fields ∙ y.fields) in
      let clock : (i : ℕ) → i < length (rate_and_phase c.devices) → slice_index (rate_and_phase c.devices) i ≡ slice_index (rate_and_phase d.devices) i = λ i less.
      sym (later_x.clock i less) ∙ later_y.clock i less in
      let registers = sym x.registers ∙ y.registers in
      let flags = same_flags c.cpu.flags d.cpu.flags (field 2) in
      let devices = same_devices c.devices d.devices fc.devices fd.devices (field 4) (clock 0 (omega arith)) (clock 1 (omega arith))
      (field 5) (field 6) (field 7) (field 8) (same_keys c.devices d.devices (field 9) (sym x.keys ∙ y.keys))
      (sym (disk_is v bytes r known fr a still quiet k lt) ∙ disk_is v bytes s known fs b still' quiet' k lt') in
      let count = fc.table.count in
      let table = same_lists c.table d.table (fc.table.count ∙ sym fd.table.count) (λ p e less.
      get_or_default c.table p e 0 less ∙ sym (numbers_agree v bytes r known fr a still k p lt (omega arith)) ∙ numbers_agree v bytes s known fs b still' k p lt' (omega arith)
      ∙ get_or_default d.table p 0 e (omega (arith, fd.table.count))) in
      let own = sent k lt in let counts = sym x.count ∙ y.count in
      λ i. record {
        count = counts i;
        cpu = record { r = registers i; h = field 0 i; pc = field 1 i; flags = flags i; stop = field 3 i };
        devices = devices i;
        sent = own i;
        table = table i;
      }

  same_event_at : (i : ℕ) (d : Event) → i < length r.inputs → get_or r.inputs i d ≡ get_or s.inputs i d
  same_event_at i d lt =
      let e = get_or r.inputs i d in let f = get_or s.inputs i d in
      let fields = sym (event_is v bytes r known fr a i d lt) ∙ event_is v bytes s known fs b i d (subst (λ (n : ℕ). i < n) events_len lt) in
      same_event e f (ap (λ x. x.count) fields) (same_input e.input f.input (ap (λ x. x.kind) fields) (ap (λ x. x.value) fields))

  same_parts : r ≡ s
  same_parts =
      let pool = same_lists r.pool s.pool pages_len (λ i d lt. sym (page_is v bytes r known fr a i d lt) ∙ page_is v bytes s known fs b i d (subst (λ (n : ℕ). i < n) pages_len lt)) in
      let inputs = same_lists r.inputs s.inputs events_len same_event_at in
      let checkpoints = same_lists r.checkpoints s.checkpoints len (λ i d lt.
      get_or_default r.checkpoints i d no_checkpoint lt ∙ checkpoint_same i lt ∙ get_or_default s.checkpoints i no_checkpoint d (subst (λ (n : ℕ). i < n) len lt)) in
      λ i. record { pool = pool i; inputs = inputs i; checkpoints = checkpoints i }

-- the version of a file is its own
pub in_version : (v : ℕ) (bytes : List ℕ) (r : RecordingParts) → version bytes ≡ v → TextWithDisk bytes r → IsEncoding v bytes r
in_version v bytes r is some =
    let w = some.version in
    let own = version_of w r some.is.known (writable r some.is.lawful) in
    subst (λ (n : ℕ). IsEncoding n bytes r) (sym own ∙ ap version (sym some.is.is) ∙ is) some.is

-- a file is that of one recording
pub same_recording_with_disk : (bytes : List ℕ) (r s : RecordingParts) → TextWithDisk bytes r → TextWithDisk bytes s → r ≡ s
same_recording_with_disk bytes r s is_r is_s =
    let v = version bytes in
    let a = in_version v bytes r refl is_r in
    let b = in_version v bytes s refl is_s in
    same_parts v bytes r s a.known a.still b.still (λ other. (a.plain other).unanswered.checkpoints) (λ other. (b.plain other).unanswered.checkpoints) (writable r a.lawful) (writable s b.lawful) (encoded_parts v bytes r a) (encoded_parts v bytes s b)

pub same_recording : (bytes : List ℕ) (r s : RecordingParts) → Text bytes r → Text bytes s → r ≡ s
same_recording bytes r s is_r is_s = same_recording_with_disk bytes r s (with_disk bytes r is_r) (with_disk bytes s is_s)
