use Rattle.oberon_check.proofs.Existence.{none_if_true}
use Rattle.oberon_check.proofs.Parts.{first_from, first_to}
use Rattle.oberon_check.proofs.laws.difference_law.Goals as goal

pub returns-clause-first : goal.returns-clause-first
returns-clause-first c x y part = (first_to x y part, first_from x y part)

pub returns-clause-none : goal.returns-clause-none
returns-clause-none c = none_if_true
