use Rattle.std.proofs.Common.{◌∙◌, ℕ, List, ap, subst, slice_get}
use Rattle.std.specs.Prelude.{◌↔◌, IsSome, Option}
use Rattle.risc_search.specs.declared.access.Access.{Access}
use Rattle.risc_model.specs.declared.event.Event.{Event}
use Rattle.risc_model.specs.MachineState.{State, cpu_state}
use Rattle.risc_search.specs.Condition.{HasInput}
use Rattle.risc_search.specs.Step.{step_from}
use Rattle.risc_search.specs.inner.Due.{HasKind}
use Rattle.risc_search.specs.inner.Observed.{word_stored}
use Rattle.risc_search.proofs.ConditionLemmas.{is_answer}
use Rattle.risc_search.proofs.StepLemmas.{one-run, one-sent, sent-first, stored-word}
use Rattle.risc_search.proofs.search.Search.step_with_inputs.Goals as goal

pub returns-clause-state : goal.returns-clause-state
returns-clause-state c = c.in-Ok.ensures.state ∙ one-run c.args.self.now.inputs.now c.args.at c.args.machine.now.state

pub returns-clause-met : goal.returns-clause-met
returns-clause-met c =
    let es = c.args.self.now.inputs.now in
    let at = c.args.at in
    let s = c.args.machine.now.state in
    let conditions = c.args.self.now.conditions.now in
    let state = returns-clause-state c in
    let taken = c.inputs_at-taken.result.now in
    let Q : List Event → Type 0 = λ (events : List Event). (kind : ℕ) → HasKind kind taken ↔ HasInput kind events at in
    is_answer conditions c.arm-any.new.armed taken (cpu_state c.cpu.result.now) c.stored-stored.result c.copied-sent.result es (step_from es at s) c.first_met.result
    c.arm-any.ensures.armed
    (record {
      taken_is = subst Q c.events.ensures.events c.inputs_at-taken.ensures;
      cpu_is = c.cpu.ensures.cpu ∙ ap (λ (x : State). x.cpu) state;
      change = stored-word c.of-before.result c.stored-stored.result es at s c.run.new.self.state _ c.of-before.ensures state c.memory.ensures.words c.stored-stored.ensures.change;
      sent_is = sent-first c.run.new.sent.items _ _ (one-sent es at s _ _ c.new-sent.ensures.items c.in-Ok.ensures.sent) (c.copied-sent.ensures ∙ c.first.ensures.value ∙ ap (λ (xs : List ℕ). slice_get xs 0) c.deref.ensures.value);
      there = λ some. subst (λ (access : Option Access). IsSome (word_stored access)) c.of-before.ensures.access (c.stored-stored.ensures.there some);
    })
    c.first_met.ensures.met c.first_met.ensures.least c.first_met.ensures.none
