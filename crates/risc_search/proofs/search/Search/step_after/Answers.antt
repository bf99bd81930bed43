use Rattle.std.proofs.Common.{Bool, not, [], ◌≡◌, ◌∙◌, ℕ, Option, ap, subst, sym}
use Rattle.std.specs.Prelude.{IsSome}
use Rattle.risc_model.specs.MachineState.{State, cpu_state}
use Rattle.risc_model.specs.Exec.{exec}
use Rattle.risc_model.specs.Replay.{feed}
use Rattle.risc_search.specs.declared.access.Access.{Access}
use Rattle.risc_search.specs.Step.{step_from}
use Rattle.risc_search.specs.inner.Observed.{word_stored}
use Rattle.risc_search.proofs.ConditionLemmas.{is_answer, none-armed}
use Rattle.risc_search.proofs.StepLemmas.{none-of, none-taken, none-there, quiet-feed, stored-word}
use Rattle.risc_search.proofs.StoreLemmas.{step-alone}
use Rattle.risc_search.proofs.search.Search.step_after.Goals as goal

pub returns-then-not-any-clause-state : goal.returns-then-not-any-clause-state
returns-then-not-any-clause-state c =
    let s = c.args.machine.now.state in
    sym (ap (λ (x : State). (exec x).0) (quiet-feed c.args.self.now.inputs.now c.args.at s c.requires.quiet) ∙ ap (λ (o : State × Option ℕ). o.0) c.in_ok-sent.ensures.exec)

pub returns-then-not-any-clause-met : goal.returns-then-not-any-clause-met
returns-then-not-any-clause-met c =
    let es = c.args.self.now.inputs.now in
    let at = c.args.at in
    let s = c.args.machine.now.state in
    let conditions = c.args.self.now.conditions.now in
    none-armed conditions c.arm-any.new.armed [] es (step_from es at s) c.arm-any.ensures.armed
    (λ kind. (none-there kind es at, none-taken es at c.requires.quiet kind))
    (step-alone es at s)
    (c.arm-any.ensures.none c.if-not-any.true)

pub returns-clause-state : goal.returns-clause-state
returns-clause-state c =
    let s = c.args.machine.now.state in
    sym (ap (λ (x : State). (exec x).0) (quiet-feed c.args.self.now.inputs.now c.args.at s c.requires.quiet) ∙ ap (λ (o : State × Option ℕ). o.0) c.in_ok-sent.ensures.exec)

pub returns-clause-met : goal.returns-clause-met
returns-clause-met c =
    let es = c.args.self.now.inputs.now in
    let at = c.args.at in
    let s = c.args.machine.now.state in
    let conditions = c.args.self.now.conditions.now in
    let done : exec (feed es at s) ≡ (c.step.new.self.state, c.in_ok-sent.sent) = ap (λ (x : State). exec x) (quiet-feed es at s c.requires.quiet) ∙ c.in_ok-sent.ensures.exec in
    let state = ap (λ (o : State × Option ℕ). o.0) done in
    is_answer conditions c.arm-any.new.armed [] (cpu_state c.cpu.result.now) c.stored-stored.result c.in_ok-sent.sent es (step_from es at s) c.first_met-met.result
    c.arm-any.ensures.armed
    (record {
      taken_is = λ kind. (none-there kind es at, none-taken es at c.requires.quiet kind);
      cpu_is = c.cpu.ensures.cpu ∙ sym (ap (λ (x : State). x.cpu) state);
      change = stored-word c.args.before.now c.stored-stored.result es at s c.step.new.self.state _ c.requires.before (sym state) c.memory.ensures.words c.stored-stored.ensures.change;
      sent_is = sym (ap (λ (o : State × Option ℕ). o.1) done);
      there = λ some. subst (λ (access : Option Access). IsSome (word_stored access)) c.requires.before.access (c.stored-stored.ensures.there some);
    })
    c.first_met-met.ensures.met c.first_met-met.ensures.least c.first_met-met.ensures.none

pub returns-then-not-any-clause-silent : goal.returns-then-not-any-clause-silent
returns-then-not-any-clause-silent c = λ silent.
    ap (λ (o : State × Option ℕ). o.1) (ap (λ (x : State). exec x) (quiet-feed c.args.self.now.inputs.now c.args.at c.args.machine.now.state c.requires.quiet) ∙ c.in_ok-sent.ensures.exec)
    ∙ none-of c.in_ok-sent.sent (c.is_none-is_silent.ensures ∙ ap (λ (b : Bool). not b) silent)

pub returns-clause-silent : goal.returns-clause-silent
returns-clause-silent c = λ silent.
    ap (λ (o : State × Option ℕ). o.1) (ap (λ (x : State). exec x) (quiet-feed c.args.self.now.inputs.now c.args.at c.args.machine.now.state c.requires.quiet) ∙ c.in_ok-sent.ensures.exec)
    ∙ none-of c.in_ok-sent.sent (c.is_none-is_silent.ensures ∙ ap (λ (b : Bool). not b) silent)
