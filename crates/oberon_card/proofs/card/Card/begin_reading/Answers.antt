use Rattle.std.proofs.Common.{◌≡◌, ◌∙◌, ap, true, false, Some, arith}
use Rattle.oberon_card.specs.CardState.{CardState, card_of, has_block}
use Rattle.oberon_card.specs.Commands.{replied}
use Rattle.oberon_card.proofs.CardLemmas.{reading-block, reading-none}
use Rattle.oberon_card.proofs.card.Card.begin_reading.Goals as goal

pub returns-then-not-has_block : goal.returns-then-not-has_block
returns-then-not-has_block c =
    let none : has_block c.args.number (card_of c.args.self.now) ≡ false = grind arith in
    c.state.ensures ∙ reading-none _ _ none

pub returns : goal.returns
unfolding replied
returns c =
    let has : has_block c.args.number (card_of c.args.self.now) ≡ true = grind arith in
    ap (λ (s : CardState). record s { sending = s.block; read = Some c.args.number }) c.reply.ensures ∙ reading-block _ _ has
