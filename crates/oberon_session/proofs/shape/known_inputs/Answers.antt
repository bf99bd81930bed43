use Rattle.std.proofs.Common.{◌≡◌, List, subst}
use Rattle.std.proofs.lemmas.Bool.{iff_false}
use Rattle.std.specs.List.{All}
use Rattle.risc_devices.specs.declared.kinds.TheConstants.{DISK}
use Rattle.oberon_session.proofs.Members.{known-third, known-unanswered, unknown}
use Rattle.oberon_session.specs.declared.draft.InputDraft.{InputDraft}
use Rattle.oberon_session.proofs.shape.known_inputs.Goals as goal

pub returns-then-version-eq3 : goal.returns-then-version-eq3
returns-then-version-eq3 c = known-third c.args.version c.args.inputs.items c.if-version-eq3.true

pub returns-then-has_no_answer : goal.returns-then-has_no_answer
returns-then-has_no_answer c =
    known-unanswered c.args.version c.args.inputs.items c.if-version-eq3.false
    (subst (λ (inputs : List InputDraft). All (λ input. ¬ (input.kind ≡ DISK)) inputs) c.deref.ensures.value (c.has_no_answer.ensures.0 c.if-has_no_answer.true))

pub returns-else-has_no_answer : goal.returns-else-has_no_answer
returns-else-has_no_answer c =
    unknown c.args.version c.args.inputs.items c.if-version-eq3.false
    (λ none. iff_false c.has_no_answer.ensures c.if-has_no_answer.false (rw c.deref.ensures.value none))
