use Rattle.std.proofs.Common.{ap₂, sym}
use Rattle.oberon_card.specs.Wants.{wanted}
use Rattle.oberon_card.proofs.CardLemmas.{flagged-set, flagged-clear}
use Rattle.oberon_card.proofs.card.Card.wants.Goals as goal

pub returns-in-true-true : goal.returns-in-true-true
unfolding wanted
returns-in-true-true c = sym (ap₂ wanted (flagged-set _ _ c.in-true-true.is-0) (flagged-set _ _ c.in-true-true.is-1))

pub returns-in-true-false : goal.returns-in-true-false
unfolding wanted
returns-in-true-false c = sym (ap₂ wanted (flagged-set _ _ c.in-true-false.is-0) (flagged-clear _ _ c.in-true-false.is-1))

pub returns-in-false-true : goal.returns-in-false-true
unfolding wanted
returns-in-false-true c = sym (ap₂ wanted (flagged-clear _ _ c.in-false-true.is-0) (flagged-set _ _ c.in-false-true.is-1))

pub returns-in-false-false : goal.returns-in-false-false
unfolding wanted
returns-in-false-false c = sym (ap₂ wanted (flagged-clear _ _ c.in-false-false.is-0) (flagged-clear _ _ c.in-false-false.is-1))
