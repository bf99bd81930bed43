use Rattle.std.specs.Prelude.{All}
use Rattle.oberon_format.proofs.Common.{arith, Event, IsOfDisk, List, subst, MAX_EVENTS, length, ◌∙◌, sym, ◌≤◌}
use Rattle.oberon_format.proofs.PlainLemmas.{plain_tested}
use Rattle.oberon_format.proofs.writing.is_plain.Goals.{then-events, else-events}
use Rattle.oberon_format.proofs.writing.is_plain.Goals as goal

pub returns-then-are_no_answers : goal.returns-then-are_no_answers
returns-then-are_no_answers c =
    let same = c.events-events.ensures.events ∙ c.inputs.ensures.inputs in
    elim c.if-events.branch [
      | then-events w ↦
          let few : length c.args.r.now.inputs ≤ MAX_EVENTS = subst (λ (es : List Event). length es ≤ MAX_EVENTS) same w.if-events.true in
          let none : All (λ e. ¬ (IsOfDisk e)) c.args.r.now.inputs = subst (All (λ e. ¬ (IsOfDisk e))) same (w.are_no_answers.ensures.0 (sym w.value-is ∙ c.if-are_no_answers.true)) in
          plain_tested c.args.r.now c.checkpoints.result.now c.are_unanswered.result few none c.checkpoints.ensures.checkpoints c.are_unanswered.ensures
      | else-events w ↦ absurd (grind arith)
    ]
