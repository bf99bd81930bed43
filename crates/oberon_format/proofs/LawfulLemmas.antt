-- Parts are lawful if and only if the file that encodes them has no fault, in each version.
use Rattle.oberon_format.proofs.Common.{[], add-one, ap, are_keys, AreFormed, AreOrdered, ArePages, arith, before_count, Bool, changes, changes_in, checkpoint_at, checkpoint_fields, checkpoint_rules, CheckpointParts, count_before, COUNTER_END, CpuState, DeviceState, drop_at, each, eq-eqb, eqb, Event, event_fields, event_floor, event_rules, Fault, Fields, fields_in, first_broken, FLAGS_END, flags_number, get_or, get_or_default, HEADER_LEN, header_rules, IfNone, if◌then◌else◌, in_ranges, inl, inr, is_change, is_checkpoint, is_count, is_input_with_disk, is_output, is_version_with_disk, IsDeviceState, IsFormed, IsLawfulWithDisk, LAST_AT, le-leb, length, limit_rules, List, list_all, lt-ltb, MAGIC, MAGIC_AT, map, MAX_CHECKPOINTS, MAX_COUNT, MAX_KEYS, MAX_PAGES, MAX_STOP, named_len, nat_le, nat_lt, nat_tests, nil_from_length, no_checkpoint, no_event, None, number_below, Option, option_or, output_of, slot_floor, PAGE_SLOTS, prior_page_id, RecordingParts, refl, replicate, Rule, sent_below, SERIAL_END, serial_number, slice_index, Some, start_in, subst, suc, sym, table_before, total, true, VERSION_WITH_DISK, VERSION_AT, zero, zero_number, ℕ, ◌&&◌, ◌++◌, ◌+◌, ◌-◌, ◌<◌, ◌==◌, ◌∙◌, ◌∷◌, ◌≡◌, ◌≤◌, max_events, FIRST_VERSION, false, has_kind, kind_of, DISK, IsOfDisk, IsPlain, All, ne_eqb, answer_rules, fault_in, IsUnanswered, UNANSWERED, MAX_EVENTS, offset_of_event, ◌||◌}
use Rattle.oberon_format.specs.Recording.{count_at}
use Rattle.oberon_format.specs.Rules.{rules}
use Rattle.oberon_format.proofs.ChangeLemmas.{change_in, after-bounded, changes-lawful, changes-make, changes-new}
use Rattle.oberon_format.proofs.PartLemmas.{member, event_here, sent_all, prior_encoded, table_next, total_rises, changes_in_few, start_in_first, start_in_rises, changed_room, ends_met, before_next}
use Rattle.oberon_format.proofs.RuleLemmas.{fields_hold, AreMet, met_parts, parts_met, each_holds, each_all, version_cases, ChangedMet, whole_met, whole_meets, changed_met, changed_meets, hold_none, first_append, rules_first, met-append, in_order, events_most, met_left, met_right}
use Rattle.oberon_format.proofs.Walk.{change_named, change_same, number_tested}
use Rattle.oberon_format.specs.declared.fault.Fault.TheVariants as fault

-- zeros are zeros
zeros_met : (n : ℕ) → list_all (λ byte. eqb byte 0) (replicate n 0) ≡ true
zeros_met zero = refl
zeros_met (suc n) = zeros_met n

pub flags_fit : (cpu : CpuState) → flags_number cpu.flags < FLAGS_END
flags_fit cpu = number_below cpu.flags

pub serial_fits : (d : DeviceState) → IsDeviceState d → serial_number d < SERIAL_END
serial_fits d fits = let s = fits.serial in grind arith

-- the keys of formed parts
pub keys_met : (v : ℕ) (before : List ℕ) (c : CheckpointParts) → IsFormed c → are_keys (checkpoint_fields v before c) ≡ true
keys_met v before c formed =
    let few : nat_le (length c.devices.keys) MAX_KEYS ≡ true = le-leb _ _ formed.devices.keys in
    rw (few, drop_at c.devices.keys (replicate (MAX_KEYS - length c.devices.keys) 0) (length c.devices.keys) refl, zeros_met (MAX_KEYS - length c.devices.keys)) refl

-- the ranges of formed parts are met if the program counter and the stop are in theirs
both : (a b : Bool) → a ≡ true → b ≡ true → (a && b) ≡ true
both a b ha hb = rw (ha, hb) refl

pub ranges_met : (v : ℕ) (before : List ℕ) (c : CheckpointParts) → IsFormed c → nat_lt c.cpu.pc COUNTER_END ≡ true → nat_le c.cpu.stop MAX_STOP ≡ true
    → in_ranges (checkpoint_fields v before c) ≡ true
ranges_met v before c formed pc stop =
    let devices = formed.devices in
    both _ _ (both _ _ (both _ _ (both _ _ (both _ _ (both _ _ (both _ _ (both _ _ pc (lt-ltb _ _ (flags_fit c.cpu))) stop) devices.phase) (lt-ltb _ _ devices.switches)) (lt-ltb _ _ devices.leds)) devices.mouse)
    (lt-ltb _ _ (serial_fits c.devices devices))) (le-leb _ _ (changes_in_few v before c))

-- what the header's rules say of the numbers
pub record IsWithin (f : Fields) : Type 0 where
  pub pages : f.pages ≤ MAX_PAGES
  pub events : f.events ≤ max_events f.version
  pub some : 1 ≤ f.checkpoints
  pub few : f.checkpoints ≤ MAX_CHECKPOINTS

pub header_within : (f : Fields) → first_broken (header_rules f) ≡ None → IsWithin f
header_within f h = record {
  pages = grind (arith, nat_tests);
  events = grind (arith, nat_tests);
  some = grind (arith, nat_tests);
  few = grind (arith, nat_tests);
}

-- what the header asks for is there
named_there : (v : ℕ) (r : RecordingParts) → named_len (fields_in v r) ≤ (fields_in v r).long
named_there v r = let up = start_in_rises v r 0 (length r.checkpoints) (omega arith) in grind arith

or_none : (o : Option Fault) → option_or o None ≡ o
or_none None = refl
or_none (Some f) = refl

-- the header of parts has the fault of its limits
pub parts_limits : (v : ℕ) (r : RecordingParts) → is_version_with_disk v ≡ true
    → first_broken (header_rules (fields_in v r)) ≡ first_broken (limit_rules v (length r.pool) (length r.inputs) (length r.checkpoints))
parts_limits v r known =
    let f = fields_in v r in
    let long : HEADER_LEN ≤ f.long = omega (arith, start_in_rises v r 0 (length r.checkpoints) (omega arith), start_in_first v r) in
    let front : List (Rule Fault) = (nat_le HEADER_LEN f.long, fault.Short f.long) ∷ (f.first == MAGIC, fault.Magic MAGIC_AT) ∷ (is_version_with_disk v, fault.Version VERSION_AT) ∷ [] in
    let limits = limit_rules v (length r.pool) (length r.inputs) (length r.checkpoints) in
    let back : List (Rule Fault) = (f.last == 0, fault.Limit LAST_AT) ∷ (nat_le (named_len f) f.long, fault.Short f.long) ∷ [] in
    met-append front (limits ++ back) (hold_none front (le-leb _ _ long, (refl, (known, tt)))) ∙ first_append limits back
    ∙ ap (option_or (first_broken limits)) (hold_none back (refl, (le-leb _ _ (named_there v r), tt))) ∙ or_none (first_broken limits)

parts_header : (v : ℕ) (r : RecordingParts) → is_version_with_disk v ≡ true → IsWithin (fields_in v r) → first_broken (header_rules (fields_in v r)) ≡ None
parts_header v r known within =
    let met : first_broken (limit_rules v (length r.pool) (length r.inputs) (length r.checkpoints)) ≡ None = grind (arith, nat_tests) in
    parts_limits v r known ∙ met

-- what the tests of counts and of output say
first_count : (before count : ℕ) → is_count 0 before count ≡ true → count ≡ 0
first_count before count h = grind (arith, nat_tests)

next_count : (k before count : ℕ) → is_count (k + 1) before count ≡ true → before < count
next_count k before count h = grind (arith, nat_tests)

bounded_count : (k before count : ℕ) → is_count k before count ≡ true → count ≤ MAX_COUNT
bounded_count k before count h = grind (arith, nat_tests)

first_output : (sent own : ℕ) → is_output 0 sent own ≡ true → own ≡ 0
first_output sent own h = grind (arith, nat_tests)

-- the page ids of a table of version 2 or 3 are those before, or those of lawful changes
changed_numbers : (v : ℕ) (r : RecordingParts) (k p : ℕ) → (v == FIRST_VERSION) ≡ false → ChangedMet (fields_in v r) k → p < PAGE_SLOTS
    → slice_index (table_before r.checkpoints k) p ≤ length r.pool → slice_index (checkpoint_at r k).table p ≤ length r.pool
changed_numbers v r k p later met lt old =
    let before = table_before r.checkpoints k in
    let table = (checkpoint_at r k).table in
    let few : changes_in v before (checkpoint_at r k) ≡ length (changes before table) = rw later refl in
    let new : (i : ℕ) → i < length (changes before table) → (change_in before table i).page_id ≤ length r.pool = λ i less.
    change_named (length r.pool) (slot_floor (change_in before table) i) (prior_page_id (fields_in v r) k) (change_in before table i) (met.each_change i (omega arith)) in
    subst (λ (n : ℕ). n ≤ length r.pool) (changes-make before table p lt)
    (after-bounded (change_in before table) (slice_index before) (length (changes before table)) p (length r.pool) new old)

-- so the page ids of all tables name pages
before_named : (v : ℕ) (r : RecordingParts) (k p : ℕ) → is_version_with_disk v ≡ true → first_broken (each (length r.checkpoints) (checkpoint_rules (fields_in v r))) ≡ None
    → k ≤ length r.checkpoints → p < PAGE_SLOTS → slice_index (table_before r.checkpoints k) p ≤ length r.pool
before_named v r zero p known met le lt = omega (arith, zero_number p)
before_named v r (suc k) p known met le lt =
    let f = fields_in v r in
    let here = each_holds (checkpoint_rules f) (length r.checkpoints) k (omega arith) met in
    subst (λ (table : List ℕ). slice_index table p ≤ length r.pool) (sym (table_next r.checkpoints k)) (elim (version_cases v known) [
      | inl first ↦ (whole_met f k first here).numbers p lt
      | inr later ↦ changed_numbers v r k p later (changed_met f k later here) lt (before_named v r k p known met (omega arith) lt)
    ])

met_lawful : (v : ℕ) (r : RecordingParts) → is_version_with_disk v ≡ true → ArePages r.pool → AreOrdered r.inputs → AreFormed r.checkpoints
    → AreMet (fields_in v r) → IsLawfulWithDisk r
unfolding total
met_lawful v r known pages ordered formed met =
    let f = fields_in v r in let n = length r.checkpoints in let within = header_within f met.header in let some = within.some in
    let each_met = λ (k : ℕ) (lt : k < n). fields_hold f k (each_holds (checkpoint_rules f) n k lt met.checkpoints) in
    let zero_met = each_met 0 (omega arith) in let last = n - 1 in let bound = (each_met last (omega arith)).within in
    let end : suc last ≡ n = omega arith in
    let all : sent_below f (suc last) ≡ length (output_of r.checkpoints) = ap (sent_below f) end ∙ sent_all v r in
    record {
      pages = within.pages;
      pool = pages;
      events = let most = events_most v in omega (arith, within.events);
      ordered = ordered;
      some = omega arith;
      few = within.few;
      begins = first_count (count_before f 0) (count_at r 0) zero_met.count;
      rises = λ k lt.
          subst (λ (m : ℕ). m < count_at r (k + 1)) (ap (count_before f) (add-one k) ∙ before_next f k) (next_count k (count_before f (k + 1)) (count_at r (k + 1)) (each_met (k + 1) lt).count);
      silent = nil_from_length (checkpoint_at r 0).sent (first_output (sent_below f 0) (length (checkpoint_at r 0).sent) zero_met.output);
      output = omega arith;
      fit = λ k lt.
          let m = each_met k lt in let own = formed k no_checkpoint lt in
          record {
            bounded = bounded_count k (count_before f k) (count_at r k) m.count;
            cpu = record { count = own.registers; registers = own.words; auxiliary = own.auxiliary; counter = m.pc; stops = m.stop };
            devices = own.devices;
            table = own.table;
            named = λ j d less.
                let inside : j < PAGE_SLOTS = subst (λ (i : ℕ). j < i) own.table.count less in
                let named = subst (λ (table : List ℕ). slice_index table j ≤ length r.pool) (table_next r.checkpoints k) (before_named v r (suc k) j known met.checkpoints lt inside) in
                subst (λ (x : ℕ). x ≤ length r.pool) (get_or_default (checkpoint_at r k).table j 0 d less) named;
            bytes = own.bytes;
          };
    }

-- the counts of events, as fields and as inputs
event_count : (es : List Event) (i : ℕ) → (get_or (map event_fields es) i no_event).count ≡ slice_index (map (λ (e : Event). e.count) es) i
event_count [] i = refl
event_count (e ∷ es) zero = refl
event_count (e ∷ es) (suc i) = event_count es i

-- each kind of inputs is one of the version's
kind_met : (v : ℕ) (e : Event) → ((v == VERSION_WITH_DISK) ≡ false → ¬ (IsOfDisk e)) → has_kind v (kind_of e.input) ≡ true
kind_met v e other = go (v == VERSION_WITH_DISK) refl where
  go : (b : Bool) → (v == VERSION_WITH_DISK) ≡ b → has_kind v (kind_of e.input) ≡ true
  go true is = rw is refl
  go false is = let no : (kind_of e.input == DISK) ≡ false = ne_eqb _ _ (other is) in rw (is, no) refl

pub event_met : (v : ℕ) (r : RecordingParts) (i : ℕ) (d : Event) → AreOrdered r.inputs → i < length r.inputs → has_kind v (kind_of (get_or r.inputs i d).input) ≡ true
    → first_broken (event_rules (fields_in v r) i) ≡ None
event_met v r i d ordered lt known =
    let f = fields_in v r in let right = ordered i lt in let count = event_count r.inputs i in
    let floor : event_floor f i ≡ before_count r.inputs i = ap (λ (n : ℕ). if i == 0 then 0 else n) (event_count r.inputs (i - 1)) in
    let e = get_or r.inputs i d in
    let input : is_input_with_disk (f.event i).kind (f.event i).value ≡ true = ap (λ x. is_input_with_disk x.kind x.value) (event_here v r i d lt) ∙ e.input.lawful in
    let low : nat_le (event_floor f i) (f.event i).count ≡ true = le-leb _ _ (omega (arith, right.0)) in
    let high : nat_le (f.event i).count MAX_COUNT ≡ true = le-leb _ _ (omega (arith, right.1)) in
    let kind : has_kind v (f.event i).kind ≡ true = ap (λ x. has_kind v x.kind) (event_here v r i d lt) ∙ known in
    hold_none (event_rules f i) (both _ _ (both _ _ (both _ _ low high) input) kind, tt)

and_false : (a b : Bool) → b ≡ false → (a && b) ≡ false
and_false true b h = h
and_false false b h = refl

-- an input of another kind breaks the rule of its event
pub event_unmet : (v : ℕ) (r : RecordingParts) (i : ℕ) (d : Event) → i < length r.inputs → has_kind v (kind_of (get_or r.inputs i d).input) ≡ false
    → first_broken (event_rules (fields_in v r) i) ≡ Some (fault.Event (offset_of_event (fields_in v r) i))
event_unmet v r i d lt other =
    let f = fields_in v r in
    let none : has_kind v (f.event i).kind ≡ false = ap (λ x. has_kind v x.kind) (event_here v r i d lt) ∙ other in
    let wrong = and_false (nat_le (event_floor f i) (f.event i).count && nat_le (f.event i).count MAX_COUNT && is_input_with_disk (f.event i).kind (f.event i).value) _ none in
    rw wrong refl

-- all rules of the events of parts are met
pub events_met : (v : ℕ) (r : RecordingParts) → AreOrdered r.inputs → ((v == VERSION_WITH_DISK) ≡ false → All (λ e. ¬ (IsOfDisk e)) r.inputs) → first_broken (each (length r.inputs) (event_rules (fields_in v r))) ≡ None
events_met v r ordered others =
    each_all (event_rules (fields_in v r)) (length r.inputs) (λ i lt. let d = member r.inputs i lt in event_met v r i d ordered lt (kind_met v (get_or r.inputs i d) (λ is. others is i d lt)))

-- if they are, no input of parts in an earlier version is an answer
no_kind : (v kind : ℕ) → (v == VERSION_WITH_DISK) ≡ false → kind ≡ DISK → has_kind v kind ≡ false
no_kind v kind other is = let same : (kind == DISK) ≡ true = eq-eqb _ _ is in rw (other, same) refl

met_events : (v : ℕ) (r : RecordingParts) → (v == VERSION_WITH_DISK) ≡ false → first_broken (each (length r.inputs) (event_rules (fields_in v r))) ≡ None
    → All (λ e. ¬ (IsOfDisk e)) r.inputs
met_events v r other met i d lt is =
    let here = each_holds (event_rules (fields_in v r)) (length r.inputs) i lt met in
    let wrong = event_unmet v r i d lt (no_kind v _ other is) in
    absurd cc

count_met : (v : ℕ) (r : RecordingParts) (k : ℕ) → IsLawfulWithDisk r → k < length r.checkpoints → is_count k (count_before (fields_in v r) k) (count_at r k) ≡ true
count_met v r zero lawful lt = eq-eqb _ _ lawful.begins
count_met v r (suc k) lawful lt =
    let before = before_next (fields_in v r) k in
    let rise = subst (λ (m : ℕ). count_at r k < count_at r m) (add-one k) (lawful.rises k (omega arith)) in
    let bounded = (lawful.fit (suc k) lt).bounded in
    grind (arith, nat_tests)

output_met : (v : ℕ) (r : RecordingParts) (k : ℕ) → IsLawfulWithDisk r → k < length r.checkpoints
    → is_output k (sent_below (fields_in v r) k) (length (checkpoint_at r k).sent) ≡ true
unfolding total
output_met v r zero lawful lt = let own = ap (λ (l : List ℕ). length l) lawful.silent in grind (arith, nat_tests)
output_met v r (suc k) lawful lt =
    let up = total_rises (λ i. ((fields_in v r).checkpoint i).output) (suc (suc k)) (length r.checkpoints) (omega arith) in
    let all = sent_all v r in let limit = lawful.output in
    grind (arith, nat_tests)

-- the page ids of a lawful recording
numbers_met : (r : RecordingParts) (k p : ℕ) → IsLawfulWithDisk r → k < length r.checkpoints → p < PAGE_SLOTS → slice_index (checkpoint_at r k).table p ≤ length r.pool
numbers_met r k p lawful lt less =
    let fit = lawful.fit k lt in
    fit.named p 0 (subst (λ (m : ℕ). p < m) (sym fit.table.count) less)

-- the changes of a lawful recording
change_met : (v : ℕ) (r : RecordingParts) (k i : ℕ) → IsLawfulWithDisk r → k < length r.checkpoints
    → i < length (changes (table_before r.checkpoints k) (checkpoint_at r k).table)
    → is_change (length r.pool) (slot_floor (change_in (table_before r.checkpoints k) (checkpoint_at r k).table) i)
    (prior_page_id (fields_in v r) k) (change_in (table_before r.checkpoints k) (checkpoint_at r k).table i) ≡ true
change_met v r k i lawful lt less =
    let before = table_before r.checkpoints k in let table = (checkpoint_at r k).table in
    let c = change_in before table i in
    let inside : c.slot < PAGE_SLOTS = (changes-lawful before table).inside i less in
    let named : c.page_id ≤ length r.pool = subst (λ (n : ℕ). n ≤ length r.pool) (sym (changes-new before table i less)) (numbers_met r k c.slot lawful lt inside) in
    change_same (length r.pool) (slot_floor (change_in before table) i) (prior_page_id (fields_in v r) k) (slice_index before) c (λ p above lt. prior_encoded v r k p lt)
    ∙ number_tested (length r.pool) i before table less ∙ le-leb _ _ named

checkpoint_rules_met : (v : ℕ) (r : RecordingParts) (k : ℕ) → is_version_with_disk v ≡ true → AreFormed r.checkpoints → IsLawfulWithDisk r → k < length r.checkpoints
    → first_broken (checkpoint_rules (fields_in v r) k) ≡ None
checkpoint_rules_met v r k known formed lawful lt =
    let f = fields_in v r in let before = table_before r.checkpoints k in let c = checkpoint_at r k in
    let own = formed k no_checkpoint lt in let fit = lawful.fit k lt in
    let ranges = ranges_met v before c own (lt-ltb _ _ fit.cpu.counter) (le-leb _ _ fit.cpu.stops) in
    let test : is_checkpoint k (count_before f k) (sent_below f k) (f.checkpoint k) ≡ true =
    both _ _ (both _ _ (both _ _ (count_met v r k lawful lt) ranges) (keys_met v before c own)) (output_met v r k lawful lt) in
    elim (version_cases v known) [
      | inl first ↦ whole_meets f k first (record { fields = test; numbers = λ j less. numbers_met r k j lawful lt less })
      | inr later ↦
          let few : changes_in v before c ≡ length (changes before c.table) = rw later refl in
          let room = changed_room v r k in
          let there = start_in_rises v r (suc k) (length r.checkpoints) (omega arith) in
          changed_meets f k later (record { room = omega arith; fields = test; ends = omega arith; each_change = λ i less. change_met v r k i lawful lt (omega arith) })
    ]

-- a recording has as many events as its version may have
pub events_few : (v : ℕ) (r : RecordingParts) → IsLawfulWithDisk r → ((v == VERSION_WITH_DISK) ≡ false → IsPlain r) → length r.inputs ≤ max_events v
events_few v r lawful plain = go (v == VERSION_WITH_DISK) refl where
  go : (b : Bool) → (v == VERSION_WITH_DISK) ≡ b → length r.inputs ≤ max_events v
  go true is = rw is lawful.events
  go false is = rw is (plain is).few

lawful_met : (v : ℕ) (r : RecordingParts) → is_version_with_disk v ≡ true → AreFormed r.checkpoints → IsLawfulWithDisk r → ((v == VERSION_WITH_DISK) ≡ false → IsPlain r) → AreMet (fields_in v r)
lawful_met v r known formed lawful plain =
    let some = lawful.some in
    record {
      header = parts_header v r known (record { pages = lawful.pages; events = events_few v r lawful plain; some = omega arith; few = lawful.few });
      events = events_met v r lawful.ordered (λ other. (plain other).unanswered.inputs);
      checkpoints = each_all (checkpoint_rules (fields_in v r)) (length r.checkpoints) (λ k lt. checkpoint_rules_met v r k known formed lawful lt);
      ends = ends_met v r;
    }

-- a lawful recording's parts are formed
pub lawful_formed : (r : RecordingParts) → IsLawfulWithDisk r → AreFormed r.checkpoints
lawful_formed r lawful = λ k d lt.
    let fit = lawful.fit k lt in
    let here : IsFormed (checkpoint_at r k) = record {
      registers = fit.cpu.count;
      words = fit.cpu.registers;
      auxiliary = fit.cpu.auxiliary;
      devices = fit.devices;
      table = fit.table;
      bytes = fit.bytes;
    } in
    subst IsFormed (get_or_default r.checkpoints k no_checkpoint d lt) here

-- parts are lawful if and only if their file has no fault, in each version
pub faultless_lawful : (v : ℕ) (r : RecordingParts) → is_version_with_disk v ≡ true → ArePages r.pool → AreOrdered r.inputs → AreFormed r.checkpoints
    → first_broken (rules (fields_in v r)) ≡ None → IsLawfulWithDisk r
faultless_lawful v r known pages ordered formed h = met_lawful v r known pages ordered formed (met_parts (fields_in v r) h)

pub lawful_faultless : (v : ℕ) (r : RecordingParts) → is_version_with_disk v ≡ true → IsLawfulWithDisk r → ((v == VERSION_WITH_DISK) ≡ false → IsPlain r) → first_broken (rules (fields_in v r)) ≡ None
lawful_faultless v r known lawful plain = parts_met (fields_in v r) (lawful_met v r known (lawful_formed r lawful) lawful plain)

-- the rule of a checkpoint's disk
or_left : (a b : Bool) → a ≡ true → (a || b) ≡ true
or_left a b h = rw h refl

or_right : (a b : Bool) → b ≡ true → (a || b) ≡ true
or_right true b h = refl
or_right false b h = h

or_neither : (a b : Bool) → a ≡ false → b ≡ false → (a || b) ≡ false
or_neither a b ha hb = rw (ha, hb) refl

pub answer_known : (v : ℕ) (r : RecordingParts) (k : ℕ) → v ≡ VERSION_WITH_DISK → first_broken (answer_rules v r k) ≡ None
answer_known v r k is = hold_none (answer_rules v r k) (or_left _ _ (eq-eqb _ _ is), tt)

pub answer_met : (v : ℕ) (r : RecordingParts) (k : ℕ) → IsUnanswered (checkpoint_at r k) → first_broken (answer_rules v r k) ≡ None
answer_met v r k none = hold_none (answer_rules v r k) (or_right _ _ (eq-eqb _ _ none), tt)

pub answer_unmet : (v : ℕ) (r : RecordingParts) (k : ℕ) → (v == VERSION_WITH_DISK) ≡ false → ¬ (IsUnanswered (checkpoint_at r k))
    → first_broken (answer_rules v r k) ≡ Some (fault.Checkpoint (start_in v r k))
answer_unmet v r k other some = rw (or_neither _ _ other (ne_eqb _ _ some)) refl

pub answers_met : (v : ℕ) (r : RecordingParts) → ((v == VERSION_WITH_DISK) ≡ false → All IsUnanswered r.checkpoints)
    → first_broken (each (length r.checkpoints) (answer_rules v r)) ≡ None
answers_met v r none = each_all (answer_rules v r) (length r.checkpoints) (λ k lt. go (v == VERSION_WITH_DISK) refl k lt) where
  go : (b : Bool) → (v == VERSION_WITH_DISK) ≡ b → (k : ℕ) → k < length r.checkpoints → first_broken (answer_rules v r k) ≡ None
  go true is k lt = hold_none (answer_rules v r k) (or_left _ _ is, tt)
  go false is k lt = answer_met v r k (none is k no_checkpoint lt)

rule_or : (a : Bool) (m n : ℕ) (f : Fault) → a ≡ false → first_broken ((a || m == n, f) ∷ []) ≡ None → m ≡ n
rule_or true m n f is h = absurd cc
rule_or false m n f is h = grind (arith, nat_tests)

met_answers : (v : ℕ) (r : RecordingParts) → (v == VERSION_WITH_DISK) ≡ false → first_broken (each (length r.checkpoints) (answer_rules v r)) ≡ None
    → All IsUnanswered r.checkpoints
met_answers v r other met k d lt =
    let here = each_holds (answer_rules v r) (length r.checkpoints) k lt met in
    let own : IsUnanswered (checkpoint_at r k) =
    rule_or (v == VERSION_WITH_DISK) (checkpoint_at r k).devices.disk UNANSWERED (fault.Checkpoint (start_in v r k)) other here in
    subst IsUnanswered (get_or_default r.checkpoints k no_checkpoint d lt) own

-- an earlier version has fewer events
pub few_events : (v events : ℕ) → (v == VERSION_WITH_DISK) ≡ false → events ≤ max_events v → events ≤ MAX_EVENTS
few_events v events other h = let same : max_events v ≡ MAX_EVENTS = rw other refl in omega arith

-- parts are lawful if and only if they have no fault, and then plain in an earlier version
pub parts_lawful : (v : ℕ) (r : RecordingParts) → is_version_with_disk v ≡ true → ArePages r.pool → AreOrdered r.inputs → AreFormed r.checkpoints
    → fault_in v r ≡ None → IsLawfulWithDisk r
parts_lawful v r known pages ordered formed h =
    faultless_lawful v r known pages ordered formed (met_left (rules (fields_in v r)) (each (length r.checkpoints) (answer_rules v r)) h)

pub parts_plain : (v : ℕ) (r : RecordingParts) → fault_in v r ≡ None → (v == VERSION_WITH_DISK) ≡ false → IsPlain r
parts_plain v r h other =
    let file = rules (fields_in v r) in let answers = each (length r.checkpoints) (answer_rules v r) in
    let met = met_parts (fields_in v r) (met_left file answers h) in
    record {
      few = few_events v (length r.inputs) other (header_within (fields_in v r) met.header).events;
      unanswered = record { inputs = met_events v r other met.events; checkpoints = met_answers v r other (met_right file answers h) };
    }

pub lawful_parts : (v : ℕ) (r : RecordingParts) → is_version_with_disk v ≡ true → IsLawfulWithDisk r → ((v == VERSION_WITH_DISK) ≡ false → IsPlain r) → fault_in v r ≡ None
lawful_parts v r known lawful plain =
    met-append (rules (fields_in v r)) _ (lawful_faultless v r known lawful plain) ∙ answers_met v r (λ other. (plain other).unanswered.checkpoints)

-- parts that fit have the fault of their file
pub parts_of_file : (v : ℕ) (r : RecordingParts) → ((v == VERSION_WITH_DISK) ≡ false → All IsUnanswered r.checkpoints) → first_broken (rules (fields_in v r)) ≡ fault_in v r
parts_of_file v r none =
    let file = rules (fields_in v r) in
    sym (first_append file (each (length r.checkpoints) (answer_rules v r)) ∙ ap (option_or (first_broken file)) (answers_met v r none) ∙ or_none (first_broken file))

-- the first fault of parts is that of their header, or else of their inputs, of their checkpoints, or of an answer
pub parts_in_order : (v : ℕ) (r : RecordingParts) (n : ℕ) (h e c a : Option Fault) → n ≡ length r.checkpoints
    → h ≡ first_broken (header_rules (fields_in v r)) → e ≡ first_broken (each (length r.inputs) (event_rules (fields_in v r)))
    → c ≡ first_broken (each n (checkpoint_rules (fields_in v r))) → a ≡ first_broken (each n (answer_rules v r))
    → fault_in v r ≡ option_or (option_or (option_or h e) c) a
parts_in_order v r n h e c a len header events checkpoints answers =
    let f = fields_in v r in
    let at_checkpoints = ap (λ (m : ℕ). first_broken (each m (checkpoint_rules f))) (sym len) ∙ sym checkpoints in
    let at_answers = ap (λ (m : ℕ). first_broken (each m (answer_rules v r))) (sym len) ∙ sym answers in
    let file : first_broken (rules f) ≡ option_or (option_or h e) c =
    rules_first f ∙ (λ i. in_order (sym header i) (sym events i) (at_checkpoints i) (ends_met v r i)) ∙ or_none _ in
    first_append (rules f) _ ∙ (λ i. option_or (file i) (at_answers i))

pub if_none : (o : Option Fault) (P : Type 0) → (o ≡ None → P) → IfNone o P
if_none None P h = h refl
if_none (Some f) P h = tt
