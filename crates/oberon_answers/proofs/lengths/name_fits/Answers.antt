use Rattle.std.proofs.Common.{◌≤◌, length, subst, sym}
use Rattle.oberon_check.specs.Line.{part_name}
use Rattle.oberon_check.specs.declared.part.Part.{Part}
use Rattle.oberon_answers.proofs.LineLemmas.{page_short, register_short}
use Rattle.oberon_answers.proofs.lengths.name_fits.Goals as goal

pub returns-in-R : goal.returns-in-R
returns-in-R c = subst (λ (part : Part). length (part_name part) ≤ 25) (sym c.in-R.is) (register_short _ c.digits_fit.ensures)

pub returns-in-Page : goal.returns-in-Page
returns-in-Page c = subst (λ (part : Part). length (part_name part) ≤ 25) (sym c.in-Page.is) (page_short _ c.digits_fit-in-Page.ensures)
