use Rattle.oberon_format.proofs.Common.{[], ap, arith, Change, changes_below, length, length-append, List, slice_index, sym, ◌∙◌, ◌∷◌, ◌≢◌}
use Rattle.oberon_format.proofs.ChangeLemmas.{change_to}
use Rattle.oberon_format.proofs.Walk.{below_stays, below_grows}
use Rattle.oberon_format.proofs.change.change_count.Goals.{then-entry, else-entry}
use Rattle.oberon_format.proofs.change.change_count.Goals as goal

pub loop-p-preserved : goal.loop-p-preserved
loop-p-preserved c =
    let before = c.args.before.now.numbers in let table = c.args.table.now.numbers in let p = c.loop-p.p in
    let old = c.entry.ensures in let new = c.entry-in-loop-p.ensures in let so_far = c.loop-p.invariant in
    elim c.if-entry.branch [
      | then-entry w ↦
          let differ : slice_index before p ≢ slice_index table p = λ e. w.if-entry.true (old ∙ e ∙ sym new) in
          let grown = ap (λ (cs : List Change). length cs) (below_grows p before table differ) in
          omega (arith, w.count-is, length-append (changes_below p before table) (change_to table p ∷ []))
      | else-entry w ↦
          w.count-is ∙ so_far ∙ sym (ap (λ (cs : List Change). length cs) (below_stays p before table (sym old ∙ w.if-entry.false ∙ new)))
    ]
