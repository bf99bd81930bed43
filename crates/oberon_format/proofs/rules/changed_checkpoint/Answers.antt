use Rattle.oberon_format.proofs.Common.{ap, arith, change_count, CHANGES_AT, checkpoint_len, checkpoint_of, checkpoint_rules, CheckpointFields, false, fields_of, first_broken, le-leb, length, lt-leb, nat_le, None, pages, refl, start, suc, sym, true, version, ◌+◌, ◌∙◌, ◌≡◌, ◌≤◌}
use Rattle.oberon_format.proofs.Room.{size_later, start_later}
use Rattle.oberon_format.proofs.ReadRules.{changed_read, numbers_next}
use Rattle.oberon_format.proofs.rules.changed_checkpoint.Goals as goal

pub returns-then-room-lt-CHANGES_AT : goal.returns-then-room-lt-CHANGES_AT
returns-then-room-lt-CHANGES_AT c =
    let bytes = c.args.bytes.now in
    let short : nat_le (c.args.offset + CHANGES_AT) (length bytes) ≡ false = lt-leb _ _ (omega arith) in
    changed_read bytes c.args.k c.args.offset c.args.before c.args.sent (pages bytes) (checkpoint_of bytes c.args.offset) c.args.table.now.numbers c.requires.version c.requires.offset c.requires.before c.requires.sent refl refl c.requires.table
    ∙ rw short refl

pub returns-in-Some : goal.returns-in-Some
returns-in-Some c =
    let bytes = c.args.bytes.now in let fields = c.of_bytes-fields in
    let there : nat_le (c.args.offset + CHANGES_AT) (length bytes) ≡ true = le-leb _ _ (omega arith) in
    changed_read bytes c.args.k c.args.offset c.args.before c.args.sent (pages bytes) fields.result c.args.table.now.numbers c.requires.version c.requires.offset c.requires.before c.requires.sent refl fields.ensures c.requires.table
    ∙ rw (there, sym c.fields_fault.ensures.fault, c.in-Some.is) refl

pub returns-then-room-checkpoint_len : goal.returns-then-room-checkpoint_len
returns-then-room-checkpoint_len c =
    let bytes = c.args.bytes.now in let fields = c.of_bytes-fields in
    let there : nat_le (c.args.offset + CHANGES_AT) (length bytes) ≡ true = le-leb _ _ (omega arith) in
    let cut : nat_le (c.args.offset + checkpoint_len (version bytes) fields.result.changes) (length bytes) ≡ false = lt-leb _ _ (omega (arith, c.checkpoint_len.ensures)) in
    changed_read bytes c.args.k c.args.offset c.args.before c.args.sent (pages bytes) fields.result c.args.table.now.numbers c.requires.version c.requires.offset c.requires.before c.requires.sent refl fields.ensures c.requires.table
    ∙ rw (there, sym c.fields_fault.ensures.fault, c.in_default.is, cut) refl

pub returns-in-Some-changes_fault : goal.returns-in-Some-changes_fault
returns-in-Some-changes_fault c =
    let bytes = c.args.bytes.now in let fields = c.of_bytes-fields in
    let there : nat_le (c.args.offset + CHANGES_AT) (length bytes) ≡ true = le-leb _ _ (omega arith) in
    let whole : nat_le (c.args.offset + checkpoint_len (version bytes) fields.result.changes) (length bytes) ≡ true = le-leb _ _ (omega (arith, c.checkpoint_len.ensures)) in
    changed_read bytes c.args.k c.args.offset c.args.before c.args.sent c.page_count.result fields.result c.args.table.now.numbers c.requires.version c.requires.offset c.requires.before c.requires.sent c.page_count.ensures fields.ensures c.requires.table
    ∙ rw (there, sym c.fields_fault.ensures.fault, c.in_default.is, whole, sym c.changes_fault.ensures.fault, c.in-Some-changes_fault.is) refl

pub returns-in-None : goal.returns-in-None
returns-in-None c =
    let bytes = c.args.bytes.now in let fields = c.of_bytes-fields in let len = c.checkpoint_len.ensures in
    let many : fields.result.changes ≡ change_count bytes c.args.offset = ap (λ (x : CheckpointFields). x.changes) fields.ensures in
    let next = start_later bytes c.args.k c.args.offset fields.result.changes c.requires.version c.requires.offset many in
    let ends : start bytes (suc c.args.k) ≤ length bytes = omega arith in
    let there : nat_le (c.args.offset + CHANGES_AT) (length bytes) ≡ true = le-leb _ _ (omega arith) in
    let whole : nat_le (c.args.offset + checkpoint_len (version bytes) fields.result.changes) (length bytes) ≡ true = le-leb _ _ (omega arith) in
    let met : first_broken (checkpoint_rules (fields_of c.args.bytes.now) c.args.k) ≡ None = changed_read bytes c.args.k c.args.offset c.args.before c.args.sent c.page_count.result fields.result c.args.table.now.numbers c.requires.version c.requires.offset c.requires.before c.requires.sent c.page_count.ensures fields.ensures c.requires.table
    ∙ rw (there, sym c.fields_fault.ensures.fault, c.in_default.is, whole, sym c.changes_fault.ensures.fault, c.in-None.is) refl in
    let numbers = numbers_next bytes c.args.k c.args.offset fields.result.changes c.args.table.now.numbers c.changes_fault.new.table.numbers c.requires.offset many c.requires.table c.in-None.ensures.table in
    (fields.ensures, c.in_default.ensures.small, ends, c.in_default.ensures.few, numbers, met)

pub changes_fault-requires-clause-room : goal.changes_fault-requires-clause-room
changes_fault-requires-clause-room c =
    let size = size_later (version c.args.bytes.now) c.of_bytes-fields.result.changes c.requires.version in
    omega (arith, c.checkpoint_len.ensures, size)
