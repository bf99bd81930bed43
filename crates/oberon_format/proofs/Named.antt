-- No rule is broken with an allocation failure.
use Rattle.oberon_format.proofs.Common.{[], Bool, changed_rules, checkpoint_rules, each, end_rules, event_rules, false, Fault, fault_in, answer_rules, length, Fields, fields_in, fields_of, first_broken, first_fault_of, first_fault_with_disk, FIRST_VERSION, header_rules, IfSome, if◌then◌else◌, IsNamedFault, List, PAGE_SLOTS, RecordingParts, Rule, true, version_rules, whole_rules, ℕ, ◌++◌, ◌==◌, ◌∷◌}
use Rattle.oberon_format.specs.Rules.{rules}
use Rattle.oberon_format.proofs.RuleLemmas.{each_rule-each, each_rule-append, EachRule}

-- each rule names a fault
abbrev AreNamed : List (Rule Fault) → Type 0
AreNamed rules = EachRule (λ (rule : Rule Fault). IsNamedFault rule.1) rules

join : (xs ys : List (Rule Fault)) → AreNamed xs → AreNamed ys → AreNamed (xs ++ ys)
join = each_rule-append (λ (rule : Rule Fault). IsNamedFault rule.1)

named_each : (n : ℕ) (of : ℕ → List (Rule Fault)) → ((k : ℕ) → AreNamed (of k)) → AreNamed (each n of)
named_each = each_rule-each (λ (rule : Rule Fault). IsNamedFault rule.1)

named_checkpoint : (f : Fields) (k : ℕ) → AreNamed (checkpoint_rules f k)
unfolding checkpoint_rules
named_checkpoint f k = go (f.version == FIRST_VERSION) where
  go : (b : Bool) → AreNamed (if b then whole_rules f k else changed_rules f k)
  go true = (tt, named_each PAGE_SLOTS _ (λ j. (tt, tt)))
  go false = (tt, (tt, (tt, named_each (f.checkpoint k).changes _ (λ i. (tt, tt)))))

rules_named : (f : Fields) → AreNamed (rules f)
unfolding rules
rules_named f =
    let header : AreNamed (header_rules f) = (tt, (tt, (tt, (tt, (tt, (tt, (tt, (tt, tt)))))))) in
    let es = each f.events (event_rules f) in let cs = each f.checkpoints (checkpoint_rules f) in
    let events = named_each f.events (event_rules f) (λ i. (tt, tt)) in
    let checkpoints = named_each f.checkpoints (checkpoint_rules f) (named_checkpoint f) in
    join (header_rules f ++ es ++ cs) (end_rules f) (join (header_rules f ++ es) cs (join (header_rules f) es header events) checkpoints) (tt, (tt, tt))

-- so the first broken one names a fault
first_named : (rules : List (Rule Fault)) → AreNamed rules → IfSome (first_broken rules) IsNamedFault
first_named [] named = tt
first_named ((true, fault) ∷ rules) named = first_named rules named.1
first_named ((false, fault) ∷ rules) named = named.0

pub fault_with_disk_named : (bytes : List ℕ) → IfSome (first_fault_with_disk bytes) IsNamedFault
fault_with_disk_named bytes = first_named (rules (fields_of bytes)) (rules_named (fields_of bytes))

pub fault_named : (bytes : List ℕ) → IfSome (first_fault_of bytes) IsNamedFault
fault_named bytes =
    let f = fields_of bytes in
    first_named (version_rules f ++ rules f) (join (version_rules f) (rules f) (tt, (tt, (tt, tt))) (rules_named f))

pub parts_named : (v : ℕ) (r : RecordingParts) → IfSome (fault_in v r) IsNamedFault
parts_named v r =
    let answers = each (length r.checkpoints) (answer_rules v r) in
    first_named (rules (fields_in v r) ++ answers) (join (rules (fields_in v r)) answers (rules_named (fields_in v r)) (named_each (length r.checkpoints) (answer_rules v r) (λ k. (tt, tt))))
