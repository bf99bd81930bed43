use Rattle.std.proofs.Common.{◌<◌, length, subst, sym}
use Rattle.oberon_check.specs.Line.{line_of}
use Rattle.oberon_check.specs.declared.verdict.Verdict.{Verdict}
use Rattle.oberon_answers.proofs.LineLemmas.{accepted_short, false_short}
use Rattle.oberon_answers.proofs.lengths.verdict_fits.Goals as goal

pub returns-in-Accepted : goal.returns-in-Accepted
returns-in-Accepted c =
    subst (λ (verdict : Verdict). length (line_of verdict) < 256) (sym c.in-Accepted.is)
    (accepted_short _ _ c.digits_fit.ensures c.digits_fit-in-Accepted.ensures)

pub returns-in-FalseAt : goal.returns-in-FalseAt
returns-in-FalseAt c =
    subst (λ (verdict : Verdict). length (line_of verdict) < 256) (sym c.in-FalseAt.is)
    (false_short _ _ _ c.digits_fit-in-FalseAt.ensures c.digits_fit-in-FalseAt-2.ensures c.name_fits.ensures)
