use Rattle.oberon_format.proofs.Common.{[], ap, arith, checkpoints, eq-eqb, events, false, Fault, fields_of, first_broken, FIRST_VERSION, HEADER_LEN, header_rules, is_version_with_disk, LAST_AT, le-leb, length, limit_rules, List, lt-leb, MAGIC, MAGIC_AT, named_len, nat_le, ne_eqb, Option, option_or, pages, refl, Rule, VERSION, sym, true, VERSION_WITH_DISK, version, word_at, ℕ, ◌==◌, ◌∙◌, ◌∷◌, ◌≡◌, ◌≤◌}
use Rattle.oberon_format.proofs.RuleLemmas.{first_append}
use Rattle.oberon_format.specs.declared.fault.Fault.TheVariants as fault
use Rattle.oberon_format.proofs.rules.header_fault.Goals as goal

-- the rules after the limits, and the first fault of a header that is there and of a known version
abbrev last_rules : List ℕ → List (Rule Fault)
last_rules bytes = (word_at bytes LAST_AT == 0, fault.Limit LAST_AT) ∷ (nat_le (named_len (fields_of bytes)) (length bytes), fault.Short (length bytes)) ∷ []

limited : (bytes : List ℕ) (v p e n : ℕ) (o : Option Fault) → HEADER_LEN ≤ length bytes → word_at bytes MAGIC_AT ≡ MAGIC → is_version_with_disk (version bytes) ≡ true
    → v ≡ version bytes → p ≡ pages bytes → e ≡ events bytes → n ≡ checkpoints bytes → o ≡ first_broken (limit_rules v p e n)
    → first_broken (header_rules (fields_of bytes)) ≡ option_or o (first_broken (last_rules bytes))
limited bytes v p e n o long magic known vs ps es cs is =
    rw (le-leb HEADER_LEN (length bytes) long, eq-eqb (word_at bytes MAGIC_AT) MAGIC magic, known)
    (first_append (limit_rules (version bytes) (pages bytes) (events bytes) (checkpoints bytes)) (last_rules bytes))
    ∙ ap (λ (x : Option Fault). option_or x (first_broken (last_rules bytes))) (sym (is ∙ (λ i. first_broken (limit_rules (vs i) (ps i) (es i) (cs i)))))

pub page_count-pages-requires : goal.page_count-pages-requires
page_count-pages-requires c = omega arith

pub event_count-events-requires : goal.event_count-events-requires
event_count-events-requires c = omega arith

pub checkpoint_count-checkpoints-requires : goal.checkpoint_count-checkpoints-requires
checkpoint_count-checkpoints-requires c = omega arith

pub u32_at-requires-2 : goal.u32_at-requires-2
u32_at-requires-2 c = omega arith

pub named_len-requires-clause-header : goal.named_len-requires-clause-header
named_len-requires-clause-header c = omega arith

pub returns-then-u32_at-ne-MAGIC-clause-fault : goal.returns-then-u32_at-ne-MAGIC-clause-fault
returns-then-u32_at-ne-MAGIC-clause-fault c = search arith

pub returns-then-version-ne-VERSION_WITH_DISK-clause-fault : goal.returns-then-version-ne-VERSION_WITH_DISK-clause-fault
returns-then-version-ne-VERSION_WITH_DISK-clause-fault c =
    let bytes = c.args.bytes.now in
    let long : nat_le HEADER_LEN (length bytes) ≡ true = le-leb _ _ (omega arith) in
    let magic : (word_at bytes MAGIC_AT == MAGIC) ≡ true = eq-eqb _ _ (omega arith) in
    let first : (version bytes == FIRST_VERSION) ≡ false = ne_eqb _ _ (λ e. omega arith) in
    let second : (version bytes == VERSION) ≡ false = ne_eqb _ _ (λ e. omega arith) in
    let third : (version bytes == VERSION_WITH_DISK) ≡ false = ne_eqb _ _ (λ e. omega arith) in
    rw (long, magic, first, second, third) refl

pub returns-in-Some-clause-fault : goal.returns-in-Some-clause-fault
returns-in-Some-clause-fault c =
    sym (limited c.args.bytes.now _ _ _ _ _ (omega arith) (omega arith) (search arith) c.u32_at-version.ensures c.page_count-pages.ensures c.event_count-events.ensures
    c.checkpoint_count-checkpoints.ensures (sym c.in-Some.is ∙ c.limits_fault.ensures.fault))

pub returns-then-u32_at-ne0-clause-fault : goal.returns-then-u32_at-ne0-clause-fault
returns-then-u32_at-ne0-clause-fault c =
    let other : (word_at c.args.bytes.now LAST_AT == 0) ≡ false = ne_eqb _ _ (λ e. omega arith) in
    sym (limited c.args.bytes.now _ _ _ _ _ (omega arith) (omega arith) (search arith) c.u32_at-version.ensures c.page_count-pages.ensures c.event_count-events.ensures
    c.checkpoint_count-checkpoints.ensures (sym c.in_default.is ∙ c.limits_fault.ensures.fault) ∙ rw other refl)

pub returns-then-bytes-named_len-clause-fault : goal.returns-then-bytes-named_len-clause-fault
returns-then-bytes-named_len-clause-fault c =
    let zero : (word_at c.args.bytes.now LAST_AT == 0) ≡ true = eq-eqb _ _ (omega arith) in
    let cut : nat_le (named_len (fields_of c.args.bytes.now)) (length c.args.bytes.now) ≡ false = lt-leb _ _ (omega arith) in
    sym (limited c.args.bytes.now _ _ _ _ _ (omega arith) (omega arith) (search arith) c.u32_at-version.ensures c.page_count-pages.ensures c.event_count-events.ensures
    c.checkpoint_count-checkpoints.ensures (sym c.in_default.is ∙ c.limits_fault.ensures.fault) ∙ rw (zero, cut) refl)

pub returns-clause-fault : goal.returns-clause-fault
returns-clause-fault c =
    let zero : (word_at c.args.bytes.now LAST_AT == 0) ≡ true = eq-eqb _ _ (omega arith) in
    let whole : nat_le (named_len (fields_of c.args.bytes.now)) (length c.args.bytes.now) ≡ true = le-leb _ _ (omega arith) in
    sym (limited c.args.bytes.now _ _ _ _ _ (omega arith) (omega arith) (search arith) c.u32_at-version.ensures c.page_count-pages.ensures c.event_count-events.ensures
    c.checkpoint_count-checkpoints.ensures (sym c.in_default.is ∙ c.limits_fault.ensures.fault) ∙ rw (zero, whole) refl)

pub returns-clause-sized : goal.returns-clause-sized
returns-clause-sized c =
    let within = c.in_default.ensures in
    record {
      header = omega arith;
      known = search arith;
      long = omega arith;
      pages = omega (arith, within.pages);
      events = omega (arith, within.events);
      some = omega (arith, within.some);
      few = omega (arith, within.few);
    }
