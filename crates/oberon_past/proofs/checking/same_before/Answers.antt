use Rattle.std.proofs.Common.{◌≡◌, ◌∙◌, sym}
use Rattle.std.proofs.lemmas.Slice.Eq.{slice_eq-Decides}
use Rattle.oberon_past.proofs.Events.{event-decides}
use Rattle.oberon_past.proofs.Inputs.{take-before}
use Rattle.oberon_past.proofs.checking.same_before.Goals as goal

pub returns : goal.returns
returns c =
    let first = take-before c.args.events.now c.first_from.result c.args.count c.first_from.ensures in
    let second = take-before c.args.others.now c.first_from-2.result c.args.count c.first_from-2.ensures in
    let decides = slice_eq-Decides event-decides _ _ c.eq.result c.eq.ensures in
    (λ holds. sym first ∙ decides.0 holds ∙ second, λ same. decides.1 (first ∙ same ∙ sym second))
