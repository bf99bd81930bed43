use Rattle.std.proofs.Common.{◌∙◌, sym}
use Rattle.std.proofs.lemmas.Bool.{false≢true, true≢false}
use Rattle.risc_search.proofs.ConcernLemmas.{is_ignored}
use Rattle.risc_search.proofs.StepLemmas.{not-true}
use Rattle.risc_search.proofs.concerns.ConcernsWatch.ignores.Goals as goal
use Rattle.risc_search.proofs.concerns.ConcernsWatch.ignores.Goals.{then-not-contains, else-not-contains}

pub returns-then-not-has_register : goal.returns-then-not-has_register
returns-then-not-has_register c = λ quiet.
    let none = not-true c.has_access.result quiet in
    elim c.if-not-contains.branch [
      | then-not-contains w ↦
          let outside = w.if-not-contains.ensures in
          is_ignored c.args.self.now c.args.pc c.args.registers.now c.args.word c.decode-instruction.result w.written.result c.accessed.result c.decode-instruction.ensures.value w.written.ensures c.accessed.ensures
          (λ is. false≢true (outside.1 is))
          (w.has_register.ensures (not-true w.has_register.result (sym w.value-is ∙ c.if-not-has_register.true)))
          (c.has_access.ensures.stores none) (c.has_access.ensures.loads none)
      | else-not-contains w ↦
          absurd (true≢false (sym w.if-not-contains.false ∙ not-true c.contains.result (sym w.value-is ∙ c.if-not-has_register.true)))
    ]
