use Rattle.std.proofs.Common.{◌∙◌, ap, true, arith}
use Rattle.oberon_card.specs.CardState.{CardState}
use Rattle.oberon_card.specs.Commands.{obeyed}
use Rattle.oberon_card.proofs.CardLemmas.{obeyed-unknown}
use Rattle.oberon_card.proofs.card.Card.obey.Goals as goal

pub returns-in-0 : goal.returns-in-0
unfolding obeyed
returns-in-0 c = rw c.in-0.is c.state.ensures

pub returns-in-8 : goal.returns-in-8
unfolding obeyed
returns-in-8 c = rw c.in-8.is c.reply.ensures

pub returns-in-16 : goal.returns-in-16
unfolding obeyed
returns-in-16 c = rw c.in-16.is c.state-in-16.ensures

pub returns-in-17 : goal.returns-in-17
unfolding obeyed
returns-in-17 c = rw c.in-17.is c.begin_reading.ensures

pub returns-in-24 : goal.returns-in-24
unfolding obeyed
returns-in-24 c = rw c.in-24.is c.begin_writing.ensures

pub returns-in-41 : goal.returns-in-41
unfolding obeyed
returns-in-41 c = rw c.in-41.is c.start.ensures

pub returns-in-55 : goal.returns-in-55
unfolding obeyed
returns-in-55 c = rw c.in-55.is (ap (λ (s : CardState). record s { application = true }) c.state-in-55.ensures)

pub returns-in-58 : goal.returns-in-58
unfolding obeyed
returns-in-58 c = rw c.in-58.is c.reply-in-58.ensures

pub returns-in_default : goal.returns-in_default
returns-in_default c =
    c.state-in_default.ensures
    ∙ obeyed-unknown _ _ _ (λ is. search arith) (λ is. search arith) (λ is. search arith) (λ is. search arith)
    (λ is. search arith) (λ is. search arith) (λ is. search arith) (λ is. search arith)
