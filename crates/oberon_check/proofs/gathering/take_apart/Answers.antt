use Rattle.std.proofs.Common.{◌++◌, ◌∷◌, [], ap, ◌∙◌}
use Rattle.oberon_check.specs.Work.{DoneRecord}
use Rattle.oberon_check.proofs.gathering.take_apart.Goals as goal

pub returns-clause-passes : goal.returns-clause-passes
returns-clause-passes c =
    c.in_ok-push.ensures.items ∙ ap (λ (d : DoneRecord). c.args.passes.now.items ++ d.pass ∷ []) c.into_parts-pass.ensures.parts

pub returns-clause-verdicts : goal.returns-clause-verdicts
returns-clause-verdicts c =
    c.in_ok-append.ensures.items ∙ ap (λ (d : DoneRecord). c.args.verdicts.now.items ++ d.verdicts) c.into_parts-pass.ensures.parts
