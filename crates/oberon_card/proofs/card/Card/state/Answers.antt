use Rattle.oberon_card.specs.Commands.{stated}
use Rattle.oberon_card.proofs.card.Card.state.Goals as goal

pub returns : goal.returns
unfolding stated
returns c = c.reply.ensures
