use Rattle.oberon_format.proofs.Common.{add-one, ap, arith, change_of, change_offset, false, get_or-set_other, is_change, slot_floor, slice_index, sym, true, ◌∙◌, ◌≡◌, ◌≢◌}
use Rattle.oberon_format.proofs.ChangeLemmas.{floor_next}
use Rattle.oberon_format.proofs.RuleLemmas.{each_met, each_unmet}
use Rattle.oberon_format.proofs.Walk.{change_made, change_tested, change_rises, change_inside}
use Rattle.oberon_format.specs.declared.fault.Fault.TheVariants as fault
use Rattle.oberon_format.proofs.rules.changes_fault.Goals as goal

pub loop-i-preserved : goal.loop-i-preserved
loop-i-preserved c =
    let bytes = c.args.bytes.now in let i = c.loop-i.i in let change = change_of bytes c.args.offset in
    let prior = slice_index c.args.table.now.numbers in let table = c.loop-i.table.numbers in
    let tested = change_tested c.args.pages c.loop-i.floor i prior (slice_index table) change c.of_bytes-change.result c.of_bytes-change.ensures c.loop-i.invariant.floor_is c.loop-i.invariant.rest in
    let holds : is_change c.args.pages (slot_floor change i) prior (change i) ≡ true = sym tested ∙ sym c.is_lawful.ensures ∙ c.if-not-is_lawful.false in
    let low = change_rises c.args.pages (slot_floor change i) prior (change i) holds in
    let inside = change_inside c.args.pages (slot_floor change i) prior (change i) holds in
    let floor = c.loop-i.invariant.floor_is in
    rw (c.set.ensures, c.of_bytes-change.ensures) (record {
      met = each_met (λ k. is_change c.args.pages (slot_floor change k) prior (change k)) (λ k. fault.Page (change_offset c.args.offset k)) i c.loop-i.invariant.met holds;
      floor_is = sym (ap (slot_floor change) (add-one i) ∙ floor_next change i);
      made = change_made change prior i table c.loop-i.table.count inside c.loop-i.invariant.made;
      rest = λ p above lt.
          let other : p ≢ (change i).slot = λ e. absurd (omega arith) in
          get_or-set_other table (change i).slot p (change i).page_id 0 other ∙ c.loop-i.invariant.rest p (omega arith) lt;
    })

pub returns-then-not-is_lawful-clause-fault : goal.returns-then-not-is_lawful-clause-fault
returns-then-not-is_lawful-clause-fault c =
    let bytes = c.args.bytes.now in let i = c.loop-i.i in let change = change_of bytes c.args.offset in
    let prior = slice_index c.args.table.now.numbers in
    let tested = change_tested c.args.pages c.loop-i.floor i prior (slice_index c.loop-i.table.numbers) change c.of_bytes-change.result c.of_bytes-change.ensures c.loop-i.invariant.floor_is c.loop-i.invariant.rest in
    let fails : is_change c.args.pages (slot_floor change i) prior (change i) ≡ false = sym tested ∙ sym c.is_lawful.ensures ∙ c.if-not-is_lawful.true in
    sym (each_unmet (λ k. is_change c.args.pages (slot_floor change k) prior (change k)) (λ k. fault.Page (change_offset c.args.offset k)) i c.args.count c.loop-i-test.true c.loop-i.invariant.met fails)
