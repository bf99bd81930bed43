-- The first broken rule of lists of rules, and what a file has if some of its rules are met.
use Rattle.oberon_format.proofs.Common.{[], add-one, ap, are_keys, arith, Bool, cases_lt, change_rules, changed_rules, CHANGES_AT, checkpoint_of, checkpoint_rules, CheckpointFields, checkpoints, count_before, COUNTER_END, each, end_rules, eq-eqb, eqb-true, event_offset, event_rules, events, false, Fault, Fields, fields_of, first_broken, first_fault_with_disk, FIRST_VERSION, FLAGS_END, header_rules, if◌then◌else◌, in_ranges, inl, inr, is_change, is_checkpoint, is_count, is_input_with_disk, is_mouse, is_output, is_phase, is_version_with_disk, IsSized, KIND_AT, le-leb, leb-true, LEDS_END, List, long_at, ltb-true, MAX_KEYS, MAX_OUTPUT, MAX_STOP, Meets, nat_tests, None, Option, option_or, page_id_rules, slot_floor, PAGE_SLOTS, prior_page_id, refl, Rule, SENT_AT, sent_below, SERIAL_END, Some, start, suc, SWITCHES_END, sym, total, true, VALUE_AT, VERSION_WITH_DISK, whole_rules, word_at, zero, ℕ, ◌&&◌, ◌++◌, ◌+◌, ◌<◌, ◌==◌, ◌∙◌, ◌∷◌, ◌≡◌, ◌≤◌, ◌⊎◌, ◌^◌, max_events, MAX_EVENTS_WITH_DISK}
use Rattle.oberon_format.specs.Rules.{rules}

-- the first fault of two lists is that of the first one, or else that of the second
pub first_append : (xs ys : List (Rule Fault)) → first_broken (xs ++ ys) ≡ option_or (first_broken xs) (first_broken ys)
first_append [] ys = refl
first_append ((true, f) ∷ xs) ys = first_append xs ys
first_append ((false, f) ∷ xs) ys = refl

pub met-append : (xs ys : List (Rule Fault)) → first_broken xs ≡ None → first_broken (xs ++ ys) ≡ first_broken ys
met-append xs ys h = first_append xs ys ∙ ap (λ (o : Option Fault). option_or o (first_broken ys)) h

pub broken-append : (xs ys : List (Rule Fault)) (g : Fault) → first_broken xs ≡ Some g → first_broken (xs ++ ys) ≡ Some g
broken-append xs ys g h = first_append xs ys ∙ ap (λ (o : Option Fault). option_or o (first_broken ys)) h

pub each_none : (rules : ℕ → List (Rule Fault)) → first_broken (each 0 rules) ≡ None
unfolding each
each_none rules = refl

pub each_more : (rules : ℕ → List (Rule Fault)) (i : ℕ) → first_broken (each i rules) ≡ None → first_broken (rules i) ≡ None → first_broken (each (i + 1) rules) ≡ None
unfolding each
each_more rules i h e = rw (add-one i) (met-append (each i rules) (rules i) h ∙ e)

pub each_broken : (rules : ℕ → List (Rule Fault)) (i n : ℕ) (g : Fault) → i < n → first_broken (each i rules) ≡ None → first_broken (rules i) ≡ Some g → first_broken (each n rules) ≡ Some g
unfolding each
each_broken rules i zero g lt h e = absurd (omega arith)
each_broken rules i (suc n) g lt h e =
    elim (cases_lt i n) [
      | inl less ↦ broken-append (each n rules) (rules n) g (each_broken rules i n g less h e)
      | inr more ↦ let is : n ≡ i = omega arith in met-append (each n rules) (rules n) (rw is h) ∙ rw is e
    ]

-- one rule at each index
pub each_met : (holds : ℕ → Bool) (fault : ℕ → Fault) (i : ℕ) → first_broken (each i (λ k. (holds k, fault k) ∷ [])) ≡ None → holds i ≡ true → first_broken (each (i + 1) (λ k. (holds k, fault k) ∷ [])) ≡ None
each_met holds fault i h e = each_more (λ k. (holds k, fault k) ∷ []) i h (rw e refl)

pub each_unmet : (holds : ℕ → Bool) (fault : ℕ → Fault) (i n : ℕ) → i < n → first_broken (each i (λ k. (holds k, fault k) ∷ [])) ≡ None → holds i ≡ false → first_broken (each n (λ k. (holds k, fault k) ∷ [])) ≡ Some (fault i)
each_unmet holds fault i n lt h e = each_broken (λ k. (holds k, fault k) ∷ []) i n (fault i) lt h (rw e refl)

-- the length of the output of the checkpoints of a file before checkpoint k
abbrev pub output_below : List ℕ → ℕ → ℕ
output_below bytes k = sent_below (fields_of bytes) k

pub output_below_none : (bytes : List ℕ) → output_below bytes 0 ≡ 0
unfolding total
output_below_none bytes = refl

pub output_below_more : (bytes : List ℕ) (k : ℕ) → output_below bytes (k + 1) ≡ output_below bytes k + word_at bytes (start bytes k + SENT_AT)
unfolding total
output_below_more bytes k = rw (add-one k) refl

pub count_before_more : (bytes : List ℕ) (k : ℕ) → count_before (fields_of bytes) (k + 1) ≡ long_at bytes (start bytes k)
count_before_more bytes k = grind (arith, nat_tests)

-- the first fault of all rules is that of the header, or else of the events, of the checkpoints, or of the end
abbrev pub in_order : Option Fault → Option Fault → Option Fault → Option Fault → Option Fault
in_order header events checkpoints ends = option_or (option_or (option_or header events) checkpoints) ends

pub rules_first : (x : Fields) → first_broken (rules x)
    ≡ in_order (first_broken (header_rules x)) (first_broken (each x.events (event_rules x))) (first_broken (each x.checkpoints (checkpoint_rules x))) (first_broken (end_rules x))
unfolding rules
rules_first x =
    let h = header_rules x in let e = each x.events (event_rules x) in
    let c = each x.checkpoints (checkpoint_rules x) in
    first_append (h ++ e ++ c) (end_rules x)
    ∙ ap (λ (o : Option Fault). option_or o (first_broken (end_rules x))) (first_append (h ++ e) c ∙ ap (λ (o : Option Fault). option_or o (first_broken c)) (first_append h e))

-- for a file, whose variables `grind` can see
pub fault_first : (bytes : List ℕ) → first_fault_with_disk bytes
    ≡ in_order (first_broken (header_rules (fields_of bytes))) (first_broken (each (events bytes) (event_rules (fields_of bytes))))
    (first_broken (each (checkpoints bytes) (checkpoint_rules (fields_of bytes)))) (first_broken (end_rules (fields_of bytes)))
fault_first bytes = rules_first (fields_of bytes)

-- a rule of a list that is met
pub met_left : (xs ys : List (Rule Fault)) → first_broken (xs ++ ys) ≡ None → first_broken xs ≡ None
met_left [] ys h = refl
met_left ((true, f) ∷ xs) ys h = met_left xs ys h
met_left ((false, f) ∷ xs) ys h = absurd cc

pub met_right : (xs ys : List (Rule Fault)) → first_broken (xs ++ ys) ≡ None → first_broken ys ≡ None
met_right xs ys h = sym (met-append xs ys (met_left xs ys h)) ∙ h

pub each_holds : (rules : ℕ → List (Rule Fault)) (n i : ℕ) → i < n → first_broken (each n rules) ≡ None → first_broken (rules i) ≡ None
unfolding each
each_holds rules zero i lt h = absurd (omega arith)
each_holds rules (suc n) i lt h =
    elim (cases_lt i n) [
      | inl less ↦ each_holds rules n i less (met_left (each n rules) (rules n) h)
      | inr more ↦
          let e : n ≡ i = omega arith in
          ap (λ (j : ℕ). first_broken (rules j)) (sym e) ∙ met_right (each n rules) (rules n) h
    ]

-- a fact of each rule of a list, of two lists, and of those of all numbers below n
abbrev pub EachRule : (Rule Fault → Type 0) → List (Rule Fault) → Type 0
EachRule P [] = Unit {0}
EachRule P (rule ∷ rules) = P rule × EachRule P rules

pub each_rule-append : (P : Rule Fault → Type 0) (xs ys : List (Rule Fault)) → EachRule P xs → EachRule P ys → EachRule P (xs ++ ys)
each_rule-append P [] ys a b = b
each_rule-append P (x ∷ xs) ys a b = (a.0, each_rule-append P xs ys a.1 b)

pub each_rule-each : (P : Rule Fault → Type 0) (n : ℕ) (rules : ℕ → List (Rule Fault)) → ((i : ℕ) → EachRule P (rules i)) → EachRule P (each n rules)
unfolding each
each_rule-each P zero rules h = tt
each_rule-each P (suc n) rules h = each_rule-append P (each n rules) (rules n) (each_rule-each P n rules h) (h n)

-- a list of rules has no fault if and only if each holds
abbrev pub AllHold : List (Rule Fault) → Type 0
AllHold rules = EachRule (λ (rule : Rule Fault). rule.0 ≡ true) rules

pub none_hold : (rules : List (Rule Fault)) → first_broken rules ≡ None → AllHold rules
none_hold [] h = tt
none_hold ((true, f) ∷ rules) h = (refl, none_hold rules h)
none_hold ((false, f) ∷ rules) h = absurd cc

pub hold_none : (rules : List (Rule Fault)) → AllHold rules → first_broken rules ≡ None
hold_none [] all = refl
hold_none ((true, f) ∷ rules) all = hold_none rules all.1
hold_none ((false, f) ∷ rules) all = let wrong = all.0 in absurd cc

pub header_sized : (bytes : List ℕ) → first_broken (header_rules (fields_of bytes)) ≡ None → IsSized bytes
header_sized bytes h = record {
  header = grind (arith, nat_tests);
  known = grind (arith, nat_tests);
  pages = grind (arith, nat_tests);
  events = grind (arith, nat_tests);
  some = grind (arith, nat_tests);
  few = grind (arith, nat_tests);
  long = grind (arith, nat_tests);
}

-- the four parts of rules that are met
pub record AreMet (f : Fields) : Type 0 where
  pub header : first_broken (header_rules f) ≡ None
  pub events : first_broken (each f.events (event_rules f)) ≡ None
  pub checkpoints : first_broken (each f.checkpoints (checkpoint_rules f)) ≡ None
  pub ends : first_broken (end_rules f) ≡ None

pub met_parts : (f : Fields) → first_broken (rules f) ≡ None → AreMet f
unfolding rules
met_parts f h =
    let es = each f.events (event_rules f) in let cs = each f.checkpoints (checkpoint_rules f) in
    let abc : first_broken (header_rules f ++ es ++ cs) ≡ None = met_left (header_rules f ++ es ++ cs) (end_rules f) h in
    let ab : first_broken (header_rules f ++ es) ≡ None = met_left (header_rules f ++ es) cs abc in
    record {
      header = met_left (header_rules f) es ab;
      events = met_right (header_rules f) es ab;
      checkpoints = met_right (header_rules f ++ es) cs abc;
      ends = met_right (header_rules f ++ es ++ cs) (end_rules f) h;
    }

pub parts_met : (f : Fields) → AreMet f → first_broken (rules f) ≡ None
parts_met f are = rules_first f ∙ (λ i. in_order (are.header i) (are.events i) (are.checkpoints i) (are.ends i))

-- each of the rules of all numbers below n is met
pub each_all : (rules : ℕ → List (Rule Fault)) (n : ℕ) → ((i : ℕ) → i < n → first_broken (rules i) ≡ None) → first_broken (each n rules) ≡ None
unfolding each
each_all rules zero h = refl
each_all rules (suc n) h = met-append (each n rules) (rules n) (each_all rules n (λ i lt. h i (omega arith))) ∙ h n (omega arith)

pub none_meets : (bytes : List ℕ) → first_fault_with_disk bytes ≡ None → Meets bytes
none_meets bytes h =
    let are = met_parts (fields_of bytes) h in
    let sized = header_sized bytes are.header in let header = are.header in let ends = are.ends in
    record {
      faultless = h;
      magic_is = grind (arith, nat_tests);
      zero_is = grind (arith, nat_tests);
      sized = sized;
      events_meet = are.events;
      checkpoints_meet = are.checkpoints;
      len_is = grind (arith, nat_tests);
    }

-- the parts of a test
pub and_left : (a b : Bool) → (a && b) ≡ true → a ≡ true
and_left true b h = refl
and_left false b h = absurd cc

pub and_right : (a b : Bool) → (a && b) ≡ true → b ≡ true
and_right true b h = h
and_right false b h = absurd cc

pub event_input : (bytes : List ℕ) (i : ℕ) → Meets bytes → i < events bytes → is_input_with_disk (word_at bytes (event_offset bytes i + KIND_AT)) (word_at bytes (event_offset bytes i + VALUE_AT)) ≡ true
event_input bytes i meets lt =
    let one = each_holds (event_rules (fields_of bytes)) (events bytes) i lt meets.events_meet in
    and_right _ _ (and_left _ _ (none_hold (event_rules (fields_of bytes) i) one).0)

-- a known version is the first, or a later one
pub version_cases : (v : ℕ) → is_version_with_disk v ≡ true → (v ≡ FIRST_VERSION) ⊎ ((v == FIRST_VERSION) ≡ false)
version_cases v known = go (v == FIRST_VERSION) refl where
  go : (b : Bool) → (v == FIRST_VERSION) ≡ b → (v ≡ FIRST_VERSION) ⊎ ((v == FIRST_VERSION) ≡ false)
  go true is = inl (eqb-true v FIRST_VERSION is)
  go false is = inr is

-- the last version is a later one
pub last_later : (v : ℕ) → (v == VERSION_WITH_DISK) ≡ true → (v == FIRST_VERSION) ≡ false
last_later v is = rw (eqb-true v VERSION_WITH_DISK is) refl

pub first_not_last : (v : ℕ) → v ≡ FIRST_VERSION → (v == VERSION_WITH_DISK) ≡ false
first_not_last v is = rw is refl

pub version_small : (v : ℕ) → is_version_with_disk v ≡ true → v < 2 ^ 32
version_small v known = grind (arith, nat_tests)

-- no version has more events than the last
pub events_most : (v : ℕ) → max_events v ≤ MAX_EVENTS_WITH_DISK
events_most v = grind (arith, nat_tests)

pub is_first : (v : ℕ) → v ≡ FIRST_VERSION → (v == FIRST_VERSION) ≡ true
is_first v is = eq-eqb v FIRST_VERSION is

pub is_later : (v : ℕ) → (v == FIRST_VERSION) ≡ false → (v == FIRST_VERSION) ≡ false
is_later v is = is

-- and by that test
pub later_by : (v : ℕ) → is_version_with_disk v ≡ true → (v == FIRST_VERSION) ≡ false → (v == FIRST_VERSION) ≡ false
later_by v known test = test

-- the rules of a checkpoint by the version
pub rules_whole : (f : Fields) (k : ℕ) → f.version ≡ FIRST_VERSION → checkpoint_rules f k ≡ whole_rules f k
unfolding checkpoint_rules
rules_whole f k is = rw (is_first f.version is) refl

pub rules_changed : (f : Fields) (k : ℕ) → (f.version == FIRST_VERSION) ≡ false → checkpoint_rules f k ≡ changed_rules f k
unfolding checkpoint_rules
rules_changed f k is = rw (is_later f.version is) refl

-- a checkpoint of version 1 that meets its rules
pub record WholeMet (f : Fields) (k : ℕ) : Type 0 where
  pub fields : is_checkpoint k (count_before f k) (sent_below f k) (f.checkpoint k) ≡ true
  pub numbers : (j : ℕ) → j < PAGE_SLOTS → f.page_id k j ≤ f.pages

-- one of a later version
pub record ChangedMet (f : Fields) (k : ℕ) : Type 0 where
  pub room : f.start k + CHANGES_AT ≤ f.long
  pub fields : is_checkpoint k (count_before f k) (sent_below f k) (f.checkpoint k) ≡ true
  pub ends : f.start (suc k) ≤ f.long
  pub each_change : (i : ℕ) → i < (f.checkpoint k).changes → is_change f.pages (slot_floor (f.change k) i) (prior_page_id f k) (f.change k i) ≡ true

-- a list of rules whose first one is met has the first fault of the rest
pub rule_met : (b : Bool) (f : Fault) (xs : List (Rule Fault)) → b ≡ true → first_broken ((b, f) ∷ xs) ≡ first_broken xs
rule_met b f xs is = rw is refl

pub whole_met : (f : Fields) (k : ℕ) → f.version ≡ FIRST_VERSION → first_broken (checkpoint_rules f k) ≡ None → WholeMet f k
whole_met f k is met =
    let numbers = page_id_rules f.pages (f.start k) (f.page_id k) in
    let all = none_hold (whole_rules f k) (ap (λ (xs : List (Rule Fault)). first_broken xs) (sym (rules_whole f k is)) ∙ met) in
    record {
      fields = all.0;
      numbers = λ j lt. leb-true (f.page_id k j) f.pages (none_hold (numbers j) (each_holds numbers PAGE_SLOTS j lt (hold_none (each PAGE_SLOTS numbers) all.1))).0;
    }

pub whole_meets : (f : Fields) (k : ℕ) → f.version ≡ FIRST_VERSION → WholeMet f k → first_broken (checkpoint_rules f k) ≡ None
whole_meets f k is met =
    let numbers = page_id_rules f.pages (f.start k) (f.page_id k) in
    let each_number = each_all numbers PAGE_SLOTS (λ j lt. hold_none (numbers j) (le-leb _ _ (met.numbers j lt), tt)) in
    ap (λ (xs : List (Rule Fault)). first_broken xs) (rules_whole f k is) ∙ hold_none (whole_rules f k) (met.fields, none_hold (each PAGE_SLOTS numbers) each_number)

pub changed_met : (f : Fields) (k : ℕ) → (f.version == FIRST_VERSION) ≡ false → first_broken (checkpoint_rules f k) ≡ None → ChangedMet f k
changed_met f k is met =
    let n = (f.checkpoint k).changes in
    let changes = change_rules f.pages (f.start k) (prior_page_id f k) (f.change k) in
    let all = none_hold (changed_rules f k) (ap (λ (xs : List (Rule Fault)). first_broken xs) (sym (rules_changed f k is)) ∙ met) in
    record {
      room = leb-true _ _ all.0;
      fields = all.1.0;
      ends = leb-true _ _ all.1.1.0;
      each_change = λ i lt. (none_hold (changes i) (each_holds changes n i lt (hold_none (each n changes) all.1.1.1))).0;
    }

pub changed_meets : (f : Fields) (k : ℕ) → (f.version == FIRST_VERSION) ≡ false → ChangedMet f k → first_broken (checkpoint_rules f k) ≡ None
changed_meets f k is met =
    let n = (f.checkpoint k).changes in
    let changes = change_rules f.pages (f.start k) (prior_page_id f k) (f.change k) in
    let each_change = each_all changes n (λ i lt. hold_none (changes i) (met.each_change i lt, tt)) in
    ap (λ (xs : List (Rule Fault)). first_broken xs) (rules_changed f k is)
    ∙ hold_none (changed_rules f k) (le-leb _ _ met.room, (met.fields, (le-leb _ _ met.ends, none_hold (each n changes) each_change)))

-- what the test of a checkpoint's fields says of each
pub record FieldsMet (k before sent : ℕ) (c : CheckpointFields) : Type 0 where
  pub count : is_count k before c.count ≡ true
  pub ranges : in_ranges c ≡ true
  pub keys : are_keys c ≡ true
  pub output : is_output k sent c.output ≡ true
  pub within : sent + c.output ≤ MAX_OUTPUT
  pub pc : c.pc < COUNTER_END
  pub flags : c.flags < FLAGS_END
  pub stop : c.stop ≤ MAX_STOP
  pub phase : is_phase c.rate c.phase ≡ true
  pub switches : c.switches < SWITCHES_END
  pub leds : c.leds < LEDS_END
  pub mouse : is_mouse c.mouse ≡ true
  pub serial : c.serial < SERIAL_END
  pub changes : c.changes ≤ PAGE_SLOTS
  pub waiting : c.waiting ≤ MAX_KEYS

pub fields_met : (k before sent : ℕ) (c : CheckpointFields) → is_checkpoint k before sent c ≡ true → FieldsMet k before sent c
fields_met k before sent c is = search (and_left, and_right, leb-true, ltb-true) depth 16

-- the fields of a checkpoint that meets its rules are in their ranges
fields_true : (f : Fields) (k : ℕ) → first_broken (checkpoint_rules f k) ≡ None → is_checkpoint k (count_before f k) (sent_below f k) (f.checkpoint k) ≡ true
unfolding checkpoint_rules
fields_true f k = go (f.version == FIRST_VERSION) where
  go : (b : Bool) → first_broken (if b then whole_rules f k else changed_rules f k) ≡ None → is_checkpoint k (count_before f k) (sent_below f k) (f.checkpoint k) ≡ true
  go true met = (none_hold (whole_rules f k) met).0
  go false met = (none_hold (changed_rules f k) met).1.0

pub fields_hold : (f : Fields) (k : ℕ) → first_broken (checkpoint_rules f k) ≡ None → FieldsMet k (count_before f k) (sent_below f k) (f.checkpoint k)
fields_hold f k met = fields_met k (count_before f k) (sent_below f k) (f.checkpoint k) (fields_true f k met)

pub checkpoint_holds : (bytes : List ℕ) (k : ℕ) → Meets bytes → k < checkpoints bytes → FieldsMet k (count_before (fields_of bytes) k) (output_below bytes k) (checkpoint_of bytes (start bytes k))
checkpoint_holds bytes k meets lt = fields_hold (fields_of bytes) k (each_holds (checkpoint_rules (fields_of bytes)) (checkpoints bytes) k lt meets.checkpoints_meet)

-- a function that grows at each step
pub rises : (f : ℕ → ℕ) → ((k : ℕ) → f k ≤ f (suc k)) → (i n : ℕ) → i ≤ n → f i ≤ f n
rises f step i zero le = let e : i ≡ 0 = omega arith in rw e (omega arith)
rises f step i (suc n) le =
    elim (cases_lt i (suc n)) [
      | inl less ↦ let ih = rises f step i n (omega arith) in let next = step n in omega arith
      | inr more ↦ let e : i ≡ suc n = omega arith in rw e (omega arith)
    ]
