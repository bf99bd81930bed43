use Rattle.oberon_format.proofs.Common.{[], ap, arith, Change, change_offset, change_rules, changes, changes_below, each, false, first_broken, le-leb, length, length-append, List, lt-leb, nat_le, refl, slice_index, Some, sym, true, ℕ, ◌+◌, ◌∙◌, ◌∷◌, ◌≡◌, ◌≢◌}
use Rattle.oberon_format.proofs.ChangeLemmas.{change_in, change_to}
use Rattle.oberon_format.proofs.RuleLemmas.{each_more, each_broken}
use Rattle.oberon_format.proofs.Walk.{below_stays, below_grows, next_rule}
use Rattle.oberon_format.proofs.parts.changes_fault.Goals.{then-entry+else-entry-pages, else-entry}
use Rattle.oberon_format.specs.declared.fault.Fault.TheVariants as fault
use Rattle.oberon_format.proofs.parts.changes_fault.Goals as goal

pub returns-then-entry-pages : goal.returns-then-entry-pages
returns-then-entry-pages c =
    let before = c.args.before.now.numbers in let table = c.args.table.now.numbers in let p = c.loop-p.p in
    let m = length (changes_below p before table) in
    let rules = change_rules c.args.pages c.args.offset (slice_index before) (change_in before table) in
    let differ : slice_index before p ≢ slice_index table p = λ e. c.if-entry.true (c.entry.ensures ∙ e ∙ sym c.entry-in-loop-p.ensures) in
    let unmet : nat_le (slice_index table p) c.args.pages ≡ false = lt-leb _ _ (omega (arith, c.entry-then-entry.ensures)) in
    let next = next_rule c.args.pages c.args.offset p before table c.loop-p-test.true differ in
    let found = each_broken rules m (length (changes before table)) (fault.Page (change_offset c.args.offset m)) next.0 c.loop-p.invariant.met (next.1 ∙ rw unmet refl) in
    ap (λ (n : ℕ). Some (fault.Page n)) c.loop-p.invariant.offset_is ∙ sym found

pub loop-p-preserved : goal.loop-p-preserved
loop-p-preserved c =
    let before = c.args.before.now.numbers in let table = c.args.table.now.numbers in let p = c.loop-p.p in
    let m = length (changes_below p before table) in
    let rules = change_rules c.args.pages c.args.offset (slice_index before) (change_in before table) in
    let old = c.entry.ensures in let new = c.entry-in-loop-p.ensures in let so_far = c.loop-p.invariant in
    elim c.if-entry.branch [
      | then-entry+else-entry-pages w ↦
          let differ : slice_index before p ≢ slice_index table p = λ e. w.if-entry.true (old ∙ e ∙ sym new) in
          let meets : nat_le (slice_index table p) c.args.pages ≡ true = le-leb _ _ (omega (arith, w.entry-then-entry.ensures, w.if-entry-pages.false)) in
          let next = next_rule c.args.pages c.args.offset p before table c.loop-p-test.true differ in
          let grown : length (changes_below (p + 1) before table) ≡ m + 1 =
          ap (λ (cs : List Change). length cs) (below_grows p before table differ) ∙ length-append (changes_below p before table) (change_to table p ∷ []) in
          record {
            met = ap (λ (n : ℕ). first_broken (each n rules)) grown ∙ each_more rules m so_far.met (next.1 ∙ rw meets refl);
            offset_is = omega (arith, w.change_offset-is, so_far.offset_is);
          }
      | else-entry w ↦
          let stays = ap (λ (cs : List Change). length cs) (below_stays p before table (sym old ∙ w.if-entry.false ∙ new)) in
          record {
            met = ap (λ (n : ℕ). first_broken (each n rules)) stays ∙ so_far.met;
            offset_is = omega (arith, w.change_offset-is, so_far.offset_is);
          }
    ]
