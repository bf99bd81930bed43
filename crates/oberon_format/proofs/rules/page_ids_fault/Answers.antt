use Rattle.oberon_format.proofs.Common.{arith, false, lt-leb, nat_le, page_id_offset, PAGE_SLOTS, word_at, ◌≡◌}
use Rattle.oberon_format.proofs.RuleLemmas.{each_unmet}
use Rattle.oberon_format.specs.declared.fault.Fault.TheVariants as fault
use Rattle.oberon_format.proofs.rules.page_ids_fault.Goals as goal

pub returns-then-u32_at-pages : goal.returns-then-u32_at-pages
returns-then-u32_at-pages c =
    let bytes = c.args.bytes.now in let offset = c.args.offset in let is = c.u32_at.ensures in
    let fails : nat_le (word_at bytes (page_id_offset offset c.loop-j.j)) c.args.pages ≡ false = lt-leb _ _ (omega arith) in
    let found = each_unmet (λ k. nat_le (word_at bytes (page_id_offset offset k)) c.args.pages) (λ k. fault.Page (page_id_offset offset k)) c.loop-j.j PAGE_SLOTS c.loop-j-test.true c.loop-j.invariant fails in
    cc
