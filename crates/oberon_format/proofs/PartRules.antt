-- The rules of a checkpoint of parts, as the code tests them: the lengths are right, and changes are those between two tables.
use Rattle.oberon_format.proofs.Common.{◌==◌, false, FIRST_VERSION, add-one, ap, arith, change_rules, changes, changes_in, CHANGES_AT, Checkpoint, checkpoint_at, checkpoint_fields, checkpoint_parts, checkpoint_rules, checkpoint_len, CheckpointFields, CheckpointParts, count_before, each, encoded_change_rules, Event, Fault, field_rules, fields_in, first_broken, get_or, le-leb, length, length-map, List, LONGEST_WITH_DISK, map, MAX_CHECKPOINTS, MAX_EVENTS_WITH_DISK, MAX_PAGES, nat_le, None, Option, option_or, parts_of, prior_page_id, RecordingParts, refl, Rule, sent_below, slice_index, Some, start_in, suc, sym, table_before, ℕ, ◌++◌, ◌+◌, ◌<◌, ◌∙◌, ◌∷◌, ◌≡◌, ◌≤◌}
use Rattle.oberon_format.proofs.ChangeLemmas.{change_in}
use Rattle.oberon_format.proofs.CheckpointLemmas.{checkpoint_at-is}
use Rattle.oberon_format.proofs.PartLemmas.{start_in_rises, start_in_next, start_in_most, changed_room, prior_encoded}
use Rattle.oberon_format.proofs.RuleLemmas.{rule_met, rules_changed, first_append}
use Rattle.oberon_format.proofs.SameFields.{changes_same}
use Rattle.oberon_format.specs.declared.fault.Fault.TheVariants as fault

-- the first fault of fields at an offset, or else of the changes from one table to another
abbrev pub encoded_fault : ℕ → ℕ → ℕ → ℕ → ℕ → CheckpointFields → List ℕ → List ℕ → Option Fault
encoded_fault pages offset k before sent fields old new =
    option_or (first_broken (field_rules offset k before sent fields)) (first_broken (encoded_change_rules pages offset old new))

-- it is that of a checkpoint of parts: its bytes are there
rules_encoded : (v : ℕ) (r : RecordingParts) (k : ℕ) → (v == FIRST_VERSION) ≡ false → k < length r.checkpoints → first_broken (checkpoint_rules (fields_in v r) k)
    ≡ encoded_fault (length r.pool) (start_in v r k) k (count_before (fields_in v r) k) (sent_below (fields_in v r) k)
    ((fields_in v r).checkpoint k) (table_before r.checkpoints k) (checkpoint_at r k).table
rules_encoded v r k later lt =
    let f = fields_in v r in let old = table_before r.checkpoints k in
    let new = (checkpoint_at r k).table in let n = length (changes old new) in
    let offset = start_in v r k in let room = changed_room v r k in
    let up = start_in_rises v r (suc k) (length r.checkpoints) (omega arith) in
    let fields : List (Rule Fault) = field_rules offset k (count_before f k) (sent_below f k) (f.checkpoint k) in
    let tested = each n (change_rules (length r.pool) offset (prior_page_id f k) (change_in old new)) in
    let ends = (nat_le (start_in v r (suc k)) f.long, fault.Short f.long) ∷ tested in
    let same = rule_met (nat_le (start_in v r (suc k)) f.long) (fault.Short f.long) tested (le-leb _ _ (omega arith))
    ∙ changes_same (length r.pool) offset n (prior_page_id f k) (slice_index old) (change_in old new) (change_in old new) (λ p less. prior_encoded v r k p less) (λ i less. refl) in
    let many : changes_in v old (checkpoint_at r k) ≡ n = rw later refl in
    ap (λ (xs : List (Rule Fault)). first_broken xs) (rules_changed f k later)
    ∙ ap (λ (m : ℕ). first_broken ((nat_le (offset + CHANGES_AT) f.long, fault.Short f.long) ∷ (fields ++ ((nat_le (start_in v r (suc k)) f.long, fault.Short f.long)
    ∷ each m (change_rules (length r.pool) offset (prior_page_id f k) (change_in old new)))))) many
    ∙ rule_met (nat_le (offset + CHANGES_AT) f.long) (fault.Short f.long) (fields ++ ends) (le-leb _ _ (omega arith)) ∙ first_append fields ends
    ∙ ap (option_or (first_broken fields)) same

-- what the code tests of the checkpoint that Rust has at this index are the rules of checkpoint k
pub rules_here : (v : ℕ) (pool : List (List ℕ)) (inputs : List Event) (checkpoints : List Checkpoint) (k : ℕ) (x : Checkpoint)
    (pages offset before sent : ℕ) (fields : CheckpointFields) (old : List ℕ) → (v == FIRST_VERSION) ≡ false → k < length checkpoints → x ≡ get_or checkpoints k x → pages ≡ length pool
    → offset ≡ start_in v (parts_of pool inputs checkpoints) k → before ≡ count_before (fields_in v (parts_of pool inputs checkpoints)) k
    → sent ≡ sent_below (fields_in v (parts_of pool inputs checkpoints)) k → old ≡ table_before (map checkpoint_parts checkpoints) k
    → fields ≡ checkpoint_fields v old (checkpoint_parts x) → (fields ≡ (fields_in v (parts_of pool inputs checkpoints)).checkpoint k)
    × (first_broken (checkpoint_rules (fields_in v (parts_of pool inputs checkpoints)) k) ≡ encoded_fault pages offset k before sent fields old x.table.numbers)
rules_here v pool inputs checkpoints k x pages offset before sent fields old later lt is count at floor below table made =
    let r = parts_of pool inputs checkpoints in
    let here : checkpoint_at r k ≡ checkpoint_parts x = checkpoint_at-is checkpoints k x lt is in
    let own : fields ≡ (fields_in v r).checkpoint k = made ∙ ap (λ (t : List ℕ). checkpoint_fields v t (checkpoint_parts x)) table
    ∙ ap (λ (y : CheckpointParts). checkpoint_fields v (table_before r.checkpoints k) y) (sym here) in
    let new : x.table.numbers ≡ (checkpoint_at r k).table = ap (λ (y : CheckpointParts). y.table) (sym here) in
    let inside : k < length r.checkpoints = omega (arith, length-map checkpoints checkpoint_parts) in
    (own, rw (count, at, floor, below, table, new, own) (rules_encoded v r k later inside))

-- the fault is that of the fields, or else that of the changes from the table before
pub by_fields : (a b : Option Fault) (f : Fault) → a ≡ Some f → option_or a b ≡ Some f
by_fields a b f is = ap (λ (o : Option Fault). option_or o b) is

pub by_changes : (pages offset : ℕ) (old passed new : List ℕ) (a b o : Option Fault)
    → a ≡ None → b ≡ first_broken (encoded_change_rules pages offset passed new) → b ≡ o → passed ≡ old → option_or a (first_broken (encoded_change_rules pages offset old new)) ≡ o
by_changes pages offset old passed new a b o none is found same =
    (λ i. option_or (none i) (first_broken (encoded_change_rules pages offset (sym same i) new))) ∙ sym is ∙ found

-- the offset of the next checkpoint
pub next_offset : (v : ℕ) (r : RecordingParts) (k offset size : ℕ) (fields : CheckpointFields) → offset ≡ start_in v r k
    → fields ≡ (fields_in v r).checkpoint k → size ≡ checkpoint_len v fields.changes → offset + size ≡ start_in v r (k + 1)
next_offset v r k offset size fields at are long =
    ap (λ (n : ℕ). n + size) at ∙ ap (λ (n : ℕ). start_in v r k + n) (long ∙ ap (λ (y : CheckpointFields). checkpoint_len v y.changes) are)
    ∙ sym (start_in_next v r k) ∙ ap (start_in v r) (sym (add-one k))

-- no checkpoint within the limits begins after the longest file
pub offset_small : (v : ℕ) (r : RecordingParts) (k : ℕ) → length r.pool ≤ MAX_PAGES → length r.inputs ≤ MAX_EVENTS_WITH_DISK → k ≤ MAX_CHECKPOINTS
    → start_in v r k ≤ LONGEST_WITH_DISK
offset_small v r k pages events few = let within = start_in_most v r k in omega arith
