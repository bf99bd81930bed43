use Rattle.std.proofs.Common.{◌≡◌, ◌*◌, ℕ, [], inl, inr, sym, subst, ap, ◌∙◌, arith}
use Rattle.risc_machine.specs.Tallies.{HasCounted}
use Rattle.risc_machine.specs.inner.Branches.{HasAdded}
use Rattle.risc_machine.proofs.BranchLemmas.{counted-log, counted-again}
use Rattle.risc_machine.proofs.counters.CountersTally.repeat.Goals as goal

pub returns : goal.returns
returns c = λ n s first empty saw recurs.
    let times : ℕ = c.args.times in
    elim recurs [
      | inl once ↦
          let steps : times * n ≡ n = ap (λ (k : ℕ). k * n) once ∙ (let one : 1 * n ≡ n = omega arith in one) in
          subst (λ (k : ℕ). HasCounted [] 0 k s c.args.self.now c.add_log.new.self) (sym steps)
          (counted-log n s first.branches.items c.args.log.now.branches.items _ _ empty saw (subst (λ (k : ℕ). HasAdded k c.args.log.now.branches.items c.args.self.now c.add_log.new.self) once c.add_log.ensures))
      | inr idle ↦ counted-again n times s first.branches.items c.args.log.now.branches.items _ _ empty idle.0 idle.1 saw c.add_log.ensures
    ]
