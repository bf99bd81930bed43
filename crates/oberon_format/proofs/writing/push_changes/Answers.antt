use Rattle.oberon_format.proofs.Common.{ap, append-nil, arith, change_bytes, changes_below, flat_map, List, PAGE_SLOTS, sym, ℕ, ◌++◌, ◌∙◌, ◌≡◌}
use Rattle.oberon_format.proofs.WriteLemmas.{changes_skipped, changes_next}
use Rattle.oberon_format.proofs.writing.push_changes.Goals.{then-entry+in_ok-push_change, else-entry}
use Rattle.oberon_format.proofs.writing.push_changes.Goals as goal

pub loop-p-init : goal.loop-p-init
unfolding changes_below
loop-p-init c = sym (append-nil _)

pub loop-p-preserved : goal.loop-p-preserved
loop-p-preserved c =
    let before : List ℕ = c.args.before.now.numbers in let table : List ℕ = c.args.table.now.numbers in
    let start : List ℕ = c.args.out.now.items in let p = c.loop-p.p in let here = c.entry.ensures in
    let now = c.entry-in-loop-p.ensures in
    elim c.if-entry.branch [
      | then-entry+in_ok-push_change w ↦
          ap (λ x. x.items) w.out-is
          ∙ changes_next before table start c.loop-p.out.items w.push_change.new.out.items p (λ same. w.if-entry.true (here ∙ same ∙ sym now)) c.loop-p.invariant
          (w.in_ok-push_change.ensures ∙ ap (λ (n : ℕ). c.loop-p.out.items ++ change_bytes (record { slot = p; page_id = n })) w.entry-then-entry.ensures)
      | else-entry w ↦ ap (λ x. x.items) w.out-is ∙ changes_skipped before table start c.loop-p.out.items p (sym here ∙ w.if-entry.false ∙ now) c.loop-p.invariant
    ]

pub returns : goal.returns
returns c =
    let all : c.loop-p.p ≡ PAGE_SLOTS = omega arith in
    c.loop-p.invariant ∙ ap (λ (n : ℕ). c.args.out.now.items ++ flat_map change_bytes (changes_below n c.args.before.now.numbers c.args.table.now.numbers)) all
