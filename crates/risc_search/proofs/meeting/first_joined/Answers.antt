use Rattle.std.proofs.Common.{◌∙◌, ◌+◌, ℕ, Bool, subst, sym, true}
use Rattle.std.specs.Prelude.{◌&&◌}
use Rattle.risc_model.specs.MachineState.{cpu_state}
use Rattle.risc_search.specs.inner.Joined.{IsScanned}
use Rattle.risc_search.specs.inner.Observed.{IsMetAt}
use Rattle.risc_search.proofs.ClauseLemmas.{scan-end, scan-joined, scan-last, scan-met, scan-none}
use Rattle.risc_search.proofs.meeting.first_joined.Goals as goal
use Rattle.risc_search.proofs.meeting.first_joined.Goals.{then-not-is_joined+else-all, else-not-is_joined}

pub loop-index-init : goal.loop-index-init
loop-index-init c = scan-none c.args.conditions.now _

pub returns-then-all-clause-met : goal.returns-then-all-clause-met
returns-then-all-clause-met c =
    scan-met c.args.conditions.now _ c.loop-index.first c.loop-index.index c.loop-index.all c.is_met_at-all.result c.loop-index.invariant c.loop-index-test.true
    (sym c.is_joined.ensures ∙ c.if-not-is_joined.true) c.is_met_at-all.ensures c.if-all.true

pub loop-index-preserved : goal.loop-index-preserved
loop-index-preserved c =
    let conditions = c.args.conditions.now in
    let index : ℕ = c.loop-index.index in
    let P : ℕ → Type 0 = λ (k : ℕ). IsMetAt conditions c.args.armed.now (cpu_state c.args.cpu.now) c.args.stored c.args.sent k in
    elim c.if-not-is_joined.branch [
      | then-not-is_joined+else-all w ↦
          let done = scan-last conditions P c.loop-index.first index c.loop-index.all c.is_met_at-all.result c.loop-index.invariant (sym c.is_joined.ensures ∙ w.if-not-is_joined.true) c.is_met_at-all.ensures w.if-all.false in
          subst (λ (all : Bool). IsScanned conditions P c.if-not-is_joined.first (index + 1) all) (sym w.all-is)
          (subst (λ (first : ℕ). IsScanned conditions P first (index + 1) true) (sym w.first-is) done)
      | else-not-is_joined w ↦
          let done = scan-joined conditions P c.loop-index.first index c.loop-index.all c.is_met_at-all.result c.loop-index.invariant (sym c.is_joined.ensures ∙ w.if-not-is_joined.false) c.is_met_at-all.ensures in
          subst (λ (all : Bool). IsScanned conditions P c.if-not-is_joined.first (index + 1) all) (sym w.all-is)
          (subst (λ (first : ℕ). IsScanned conditions P first (index + 1) (c.loop-index.all && c.is_met_at-all.result)) (sym w.first-is) done)
    ]

pub returns-clause-none : goal.returns-clause-none
returns-clause-none c = scan-end c.args.conditions.now _ c.loop-index.first c.loop-index.index c.loop-index.all c.loop-index.invariant c.loop-index-test.false
