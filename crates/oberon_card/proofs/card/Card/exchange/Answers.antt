use Rattle.std.proofs.Common.{◌∙◌, ap}
use Rattle.oberon_card.specs.Exchange.{heard, exchanged}
use Rattle.oberon_card.proofs.card.Card.exchange.Goals as goal

pub returns-clause-after : goal.returns-clause-after
unfolding exchanged
returns-clause-after c = c.hear.ensures ∙ ap (heard c.args.byte) c.say-answer.ensures.after
