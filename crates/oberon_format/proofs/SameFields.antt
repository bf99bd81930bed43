-- Fields that agree as far as rules look have the same first fault.
use Rattle.oberon_format.proofs.Common.{[], ap, ap₂, arith, Bool, Change, change_offset, change_rules, changed_rules, CHANGES_AT, checkpoint_rules, CheckpointFields, count_before, each, end_rules, event_rules, EventFields, false, Fault, field_rules, Fields, first_broken, FIRST_VERSION, HEADER_LEN, header_rules, if◌then◌else◌, is_change, is_event, is_version_with_disk, LAST_AT, limit_rules, List, MAGIC, MAGIC_AT, MAX_CHECKPOINTS, MAX_PAGES, named_len, nat_le, nat_tests, None, offset_of_event, Option, page_id_offset, page_id_rules, slot_floor, PAGE_SLOTS, prior_page_id, refl, Rule, sent_below, Some, suc, sym, total, true, VERSION_AT, whole_rules, zero, ℕ, ◌++◌, ◌+◌, ◌-◌, ◌<◌, ◌==◌, ◌∙◌, ◌∷◌, ◌≡◌, ◌≤◌, max_events}
use Rattle.oberon_format.specs.Rules.{rules}
use Rattle.oberon_format.proofs.ChangeLemmas.{floor_same}
use Rattle.oberon_format.proofs.PartLemmas.{before_next, prior_more}
use Rattle.oberon_format.proofs.RuleLemmas.{fields_met, broken-append, met-append, met_left, met_right, fields_hold, none_hold}
use Rattle.oberon_format.proofs.Walk.{change_same}
use Rattle.oberon_format.specs.declared.fault.Fault.TheVariants as fault

-- rules with the same first fault
abbrev pub Same : List (Rule Fault) → List (Rule Fault) → Type 0
Same p q = first_broken p ≡ first_broken q

-- the rules after some with the same first fault
pub same_then : (front front' p q : List (Rule Fault)) → Same front front' → (first_broken front' ≡ None → Same p q) → Same (front ++ p) (front' ++ q)
same_then front front' p q same rest = go (first_broken front') refl same
  where
    go : (o : Option Fault) → first_broken front' ≡ o → Same front front' → Same (front ++ p) (front' ++ q)
    go None b a = met-append front p (a ∙ b) ∙ rest b ∙ sym (met-append front' q b)
    go (Some fault) b a = broken-append front p fault (a ∙ b) ∙ sym (broken-append front' q fault b)

pub same_append : (xs xs' ys ys' : List (Rule Fault)) → Same xs xs' → Same ys ys' → Same (xs ++ ys) (xs' ++ ys')
same_append xs xs' ys ys' a b = same_then xs xs' ys ys' a (λ _. b)

-- those of all numbers below n
same_while : (n : ℕ) (f g : ℕ → List (Rule Fault)) → ((i : ℕ) → i < n → first_broken (each i g) ≡ None → Same (f i) (g i)) → Same (each n f) (each n g)
unfolding each
same_while zero f g h = refl
same_while (suc n) f g h = same_then (each n f) (each n g) (f n) (g n) (same_while n f g (λ i lt. h i (omega arith))) (h n (omega arith))

same_each : (n : ℕ) (f g : ℕ → List (Rule Fault)) → ((i : ℕ) → i < n → Same (f i) (g i)) → Same (each n f) (each n g)
same_each n f g h = same_while n f g (λ i lt _. h i lt)

-- the page ids of a checkpoint of version 1
pub numbers_same : (pages offset : ℕ) (m n : ℕ → ℕ) → ((j : ℕ) → j < PAGE_SLOTS → m j ≡ n j)
    → first_broken (each PAGE_SLOTS (page_id_rules pages offset m)) ≡ first_broken (each PAGE_SLOTS (page_id_rules pages offset n))
numbers_same pages offset m n h =
    same_each PAGE_SLOTS (page_id_rules pages offset m) (page_id_rules pages offset n)
    (λ j lt. ap (λ (v : ℕ). first_broken ((nat_le v pages, fault.Page (page_id_offset offset j)) ∷ [])) (h j lt))

-- the changes of a checkpoint of version 2 or 3
pub changes_same : (pages offset n : ℕ) (s t : ℕ → ℕ) (a b : ℕ → Change) → ((p : ℕ) → p < PAGE_SLOTS → s p ≡ t p) → ((i : ℕ) → i < n → a i ≡ b i)
    → first_broken (each n (change_rules pages offset s a)) ≡ first_broken (each n (change_rules pages offset t b))
changes_same pages offset n s t a b stands same =
    same_each n (change_rules pages offset s a) (change_rules pages offset t b) (λ i lt.
    let floor : slot_floor a i ≡ slot_floor b i = floor_same a b i (λ j less. same j (omega arith)) in
    let test : is_change pages (slot_floor a i) s (a i) ≡ is_change pages (slot_floor b i) t (b i) =
    ap (λ (m : ℕ). is_change pages m s (a i)) floor ∙ ap (λ (c : Change). is_change pages (slot_floor b i) s c) (same i lt)
    ∙ change_same pages (slot_floor b i) s t (b i) (λ p above less. stands p less) in
    ap (λ (holds : Bool). first_broken ((holds, fault.Page (change_offset offset i)) ∷ [])) test)

-- fields with the numbers of one and the members of the other
abbrev pub mixed : Fields → Fields → Fields
mixed f g = record g { long = f.long; event = f.event; start = f.start; checkpoint = f.checkpoint; change = f.change; page_id = f.page_id }

-- the rule that a file has n bytes
abbrev pub size_rules : ℕ → Fields → List (Rule Fault)
size_rules n f = (nat_le n f.long, fault.Short f.long) ∷ []

-- counts of pages, events and checkpoints within their limits
pub record AreFew (f : Fields) : Type 0 where
  pub pages : f.pages ≤ MAX_PAGES
  pub events : f.events ≤ max_events f.version
  pub checkpoints : f.checkpoints ≤ MAX_CHECKPOINTS

-- what is before checkpoint k
pub record SoFar (f g : Fields) (k : ℕ) : Type 0 where
  pub start : f.start k ≡ g.start k
  pub before : count_before f k ≡ count_before g k
  pub sent : sent_below f k ≡ sent_below g k
  pub prior : (p : ℕ) → p < PAGE_SLOTS → prior_page_id f k p ≡ prior_page_id g k p

-- what the rules of a checkpoint look at, at first and if its changes are within their limit
pub record SameRest (f g : Fields) (k : ℕ) : Type 0 where
  pub next : f.start (suc k) ≡ g.start (suc k)
  pub ends : Same (size_rules (f.start (suc k)) f) (size_rules (g.start (suc k)) g)
  pub change : (i : ℕ) → i < (g.checkpoint k).changes → f.change k i ≡ g.change k i
  pub page_id : (p : ℕ) → p < PAGE_SLOTS → f.page_id k p ≡ g.page_id k p

pub record SameCheckpoint (f g : Fields) (k : ℕ) : Type 0 where
  pub room : Same (size_rules (f.start k + CHANGES_AT) f) (size_rules (g.start k + CHANGES_AT) g)
  pub fields : f.checkpoint k ≡ g.checkpoint k
  pub rest : (g.checkpoint k).changes ≤ PAGE_SLOTS → SameRest f g k

-- what those after the header look at, each after the rules before it are met
pub record SameParts (f g : Fields) : Type 0 where
  pub named : Same (size_rules (named_len (mixed f g)) f) (size_rules (named_len g) g)
  pub event : (i : ℕ) → i < g.events → f.event i ≡ g.event i
  pub start : f.start 0 ≡ g.start 0
  pub checkpoint : (k : ℕ) → k < g.checkpoints → first_broken (each k (checkpoint_rules g)) ≡ None → SameCheckpoint f g k
  pub ends : first_broken (each g.checkpoints (checkpoint_rules g)) ≡ None → SoFar f g g.checkpoints → Same (end_rules (mixed f g)) (end_rules g)

-- the same numbers, and what agrees if the counts are within their limits
pub record SameFields (f g : Fields) : Type 0 where
  pub first : f.first ≡ g.first
  pub version : f.version ≡ g.version
  pub pages : f.pages ≡ g.pages
  pub events : f.events ≡ g.events
  pub checkpoints : f.checkpoints ≡ g.checkpoints
  pub last : f.last ≡ g.last
  pub header : Same (size_rules HEADER_LEN f) (size_rules HEADER_LEN g)
  pub parts : AreFew g → SameParts f g

-- so what is before each checkpoint agrees, if the rules of those before it are met
so_far_next : (f g : Fields) (k : ℕ) → SoFar f g k → f.checkpoint k ≡ g.checkpoint k → SameRest f g k → SoFar f g (suc k)
unfolding total
so_far_next f g k so_far fields rest = record {
  start = rest.next;
  before = before_next f k ∙ ap (λ (c : CheckpointFields). c.count) fields ∙ sym (before_next g k);
  sent = ap₂ (λ (below own : ℕ). below + own) so_far.sent (ap (λ (c : CheckpointFields). c.output) fields);
  prior = λ p lt. prior_more f k p ∙ rest.page_id p lt ∙ sym (prior_more g k p);
}

same_so_far : (f g : Fields) → SameParts f g → (k : ℕ) → k ≤ g.checkpoints → first_broken (each k (checkpoint_rules g)) ≡ None → SoFar f g k
unfolding each total
same_so_far f g same zero le met = record { start = same.start; before = refl; sent = refl; prior = λ p lt. refl }
same_so_far f g same (suc k) le met =
    let met_before = met_left (each k (checkpoint_rules g)) (checkpoint_rules g k) met in
    let here = same.checkpoint k (omega arith) met_before in
    let few = (fields_hold g k (met_right (each k (checkpoint_rules g)) (checkpoint_rules g k) met)).changes in
    so_far_next f g k (same_so_far f g same k (omega arith) met_before) here.fields (here.rest few)

events_same : (f g : Fields) → SameParts f g → Same (each g.events (event_rules (mixed f g))) (each g.events (event_rules g))
events_same f g same =
    same_each g.events (event_rules (mixed f g)) (event_rules g) (λ i lt.
    let floor = ap (λ (e : EventFields). if i == 0 then 0 else e.count) (same.event (i - 1) (omega arith)) in
    ap₂ (λ (n : ℕ) (e : EventFields). first_broken ((is_event g.version n e, fault.Event (offset_of_event g i)) ∷ [])) floor (same.event i lt))

-- the rules of the fields of a checkpoint, and what they say of its changes
abbrev rules_of_fields : Fields → ℕ → List (Rule Fault)
rules_of_fields f k = field_rules (f.start k) k (count_before f k) (sent_below f k) (f.checkpoint k)

fields_same : (f g : Fields) (k : ℕ) → SoFar f g k → SameCheckpoint f g k → Same (rules_of_fields f k) (rules_of_fields g k)
fields_same f g k so_far same = λ i. first_broken (field_rules (so_far.start i) k (so_far.before i) (so_far.sent i) (same.fields i))

changes_few : (g : Fields) (k : ℕ) → first_broken (rules_of_fields g k) ≡ None → (g.checkpoint k).changes ≤ PAGE_SLOTS
changes_few g k met = (fields_met k (count_before g k) (sent_below g k) (g.checkpoint k) (none_hold (rules_of_fields g k) met).0).changes

-- a checkpoint of version 1
whole_same : (f g : Fields) (k : ℕ) → SoFar f g k → SameCheckpoint f g k → Same (whole_rules (mixed f g) k) (whole_rules g k)
whole_same f g k so_far same =
    same_then (rules_of_fields f k) (rules_of_fields g k) (each PAGE_SLOTS (page_id_rules g.pages (f.start k) (f.page_id k)))
    (each PAGE_SLOTS (page_id_rules g.pages (g.start k) (g.page_id k))) (fields_same f g k so_far same) (λ met.
    ap (λ (n : ℕ). first_broken (each PAGE_SLOTS (page_id_rules g.pages n (f.page_id k)))) so_far.start
    ∙ numbers_same g.pages (g.start k) (f.page_id k) (g.page_id k) (same.rest (changes_few g k met)).page_id)

-- a checkpoint of version 2 or 3
changed_same : (f g : Fields) (k : ℕ) → SoFar f g k → SameCheckpoint f g k → Same (changed_rules (mixed f g) k) (changed_rules g k)
changed_same f g k so_far same =
    let changes = each (f.checkpoint k).changes (change_rules g.pages (f.start k) (prior_page_id f k) (f.change k)) in
    let changes' = each (g.checkpoint k).changes (change_rules g.pages (g.start k) (prior_page_id g k) (g.change k)) in
    let tail = size_rules (f.start (suc k)) f ++ changes in
    let tail' = size_rules (g.start (suc k)) g ++ changes' in
    same_append (size_rules (f.start k + CHANGES_AT) f) (size_rules (g.start k + CHANGES_AT) g) (rules_of_fields f k ++ tail) (rules_of_fields g k ++ tail') same.room
    (same_then (rules_of_fields f k) (rules_of_fields g k) tail tail' (fields_same f g k so_far same) (λ met.
    let rest = same.rest (changes_few g k met) in
    same_append (size_rules (f.start (suc k)) f) (size_rules (g.start (suc k)) g) changes changes' rest.ends
    (ap₂ (λ (c : CheckpointFields) (n : ℕ). first_broken (each c.changes (change_rules g.pages n (prior_page_id f k) (f.change k)))) same.fields so_far.start
    ∙ changes_same g.pages (g.start k) (g.checkpoint k).changes (prior_page_id f k) (prior_page_id g k) (f.change k) (g.change k) so_far.prior rest.change)))

checkpoint_same : (f g : Fields) (k : ℕ) → SoFar f g k → SameCheckpoint f g k → Same (checkpoint_rules (mixed f g) k) (checkpoint_rules g k)
unfolding checkpoint_rules
checkpoint_same f g k so_far same = go (g.version == FIRST_VERSION) where
  go : (b : Bool) → Same (if b then whole_rules (mixed f g) k else changed_rules (mixed f g) k) (if b then whole_rules g k else changed_rules g k)
  go true = whole_same f g k so_far same
  go false = changed_same f g k so_far same

-- the rules of the numbers in the header
abbrev number_rules : Fields → List (Rule Fault)
number_rules g =
    ((g.first == MAGIC, fault.Magic MAGIC_AT) ∷ (is_version_with_disk g.version, fault.Version VERSION_AT) ∷ []) ++ limit_rules g.version g.pages g.events g.checkpoints
    ++ ((g.last == 0, fault.Limit LAST_AT) ∷ [])

few_by : (g : Fields) → first_broken (number_rules g) ≡ None → AreFew g
few_by g met = record { pages = grind (arith, nat_tests); events = grind (arith, nat_tests); checkpoints = grind (arith, nat_tests) }

mixed_rules : (f g : Fields) → SameFields f g → Same (rules (mixed f g)) (rules g)
unfolding rules
mixed_rules f g same =
    let m = mixed f g in let size = size_rules HEADER_LEN f in let size' = size_rules HEADER_LEN g in
    let named = size_rules (named_len m) f in let named' = size_rules (named_len g) g in
    let numbers = number_rules g in
    let e = each g.events (event_rules m) in let e' = each g.events (event_rules g) in
    let c = each g.checkpoints (checkpoint_rules m) in let c' = each g.checkpoints (checkpoint_rules g) in
    let h' : List (Rule Fault) = header_rules g in
    let parts : first_broken h' ≡ None → SameParts f g = λ met. same.parts (few_by g (met_left numbers named' (met_right size' (numbers ++ named') met))) in
    let header : Same (header_rules m) h' = same_append size size' (numbers ++ named) (numbers ++ named') same.header
    (same_then numbers numbers named named' refl (λ met. (same.parts (few_by g met)).named)) in
    let events = same_then (header_rules m) h' e e' header (λ met. events_same f g (parts met)) in
    let checkpoints = same_then (header_rules m ++ e) (h' ++ e') c c' events (λ met.
    let all = parts (met_left h' e' met) in
    same_while g.checkpoints (checkpoint_rules m) (checkpoint_rules g) (λ k lt before. checkpoint_same f g k (same_so_far f g all k (omega arith) before) (all.checkpoint k lt before))) in
    same_then (header_rules m ++ e ++ c) (h' ++ e' ++ c') (end_rules m) (end_rules g) checkpoints (λ met.
    let all = parts (met_left h' e' (met_left (h' ++ e') c' met)) in
    let before = met_right (h' ++ e') c' met in
    all.ends before (same_so_far f g all g.checkpoints (omega arith) before))

is_mixed : (f g : Fields) → SameFields f g → f ≡ mixed f g
is_mixed f g same =
    λ i. record f { first = same.first i; version = same.version i; pages = same.pages i; events = same.events i; checkpoints = same.checkpoints i; last = same.last i }

pub same_rules : (f g : Fields) → SameFields f g → Same (rules f) (rules g)
same_rules f g same = ap (λ (x : Fields). first_broken (rules x)) (is_mixed f g same) ∙ mixed_rules f g same

-- the rule of one size in fields of one length
pub same_size : (f g : Fields) (m n : ℕ) → f.long ≡ g.long → m ≡ n → Same (size_rules m f) (size_rules n g)
same_size f g m n long same = ap₂ (λ (a b : ℕ). first_broken ((nat_le a b, fault.Short b) ∷ [])) same long
