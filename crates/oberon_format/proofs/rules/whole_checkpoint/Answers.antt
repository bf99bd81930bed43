use Rattle.oberon_format.proofs.Common.{checkpoint_rules, fields_of, first_broken, None, pages, refl, sym, ◌∙◌, ◌≡◌}
use Rattle.oberon_format.proofs.ReadRules.{whole_read}
use Rattle.oberon_format.proofs.rules.whole_checkpoint.Goals as goal

pub returns-in-Some : goal.returns-in-Some
returns-in-Some c =
    whole_read c.args.bytes.now c.args.k c.args.offset c.args.before c.args.sent (pages c.args.bytes.now) c.of_bytes-fields.result c.requires.version c.requires.offset c.requires.before c.requires.sent refl c.of_bytes-fields.ensures
    ∙ rw (sym c.fields_fault.ensures.fault, c.in-Some.is) refl

pub returns-in-Some-page_ids_fault : goal.returns-in-Some-page_ids_fault
returns-in-Some-page_ids_fault c =
    whole_read c.args.bytes.now c.args.k c.args.offset c.args.before c.args.sent c.page_count.result c.of_bytes-fields.result c.requires.version c.requires.offset c.requires.before c.requires.sent c.page_count.ensures c.of_bytes-fields.ensures
    ∙ rw (sym c.fields_fault.ensures.fault, c.in_default.is, sym c.page_ids_fault.ensures, c.in-Some-page_ids_fault.is) refl

pub returns-in-None : goal.returns-in-None
returns-in-None c =
    let met : first_broken (checkpoint_rules (fields_of c.args.bytes.now) c.args.k) ≡ None = whole_read c.args.bytes.now c.args.k c.args.offset c.args.before c.args.sent c.page_count.result c.of_bytes-fields.result c.requires.version c.requires.offset c.requires.before c.requires.sent c.page_count.ensures c.of_bytes-fields.ensures
    ∙ rw (sym c.fields_fault.ensures.fault, c.in_default.is, sym c.page_ids_fault.ensures, c.in-None.is) refl in
    (c.of_bytes-fields.ensures, c.in_default.ensures.small, met)
