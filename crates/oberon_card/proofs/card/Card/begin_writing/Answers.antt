use Rattle.std.proofs.Common.{◌≡◌, ◌∙◌, ap, true, false, arith}
use Rattle.oberon_card.specs.CardState.{CardState, card_of, has_block}
use Rattle.oberon_card.proofs.CardLemmas.{writing-block, writing-none}
use Rattle.oberon_card.proofs.card.Card.begin_writing.Goals as goal

pub returns-then-not-has_block : goal.returns-then-not-has_block
returns-then-not-has_block c =
    let none : has_block c.args.number (card_of c.args.self.now) ≡ false = grind arith in
    c.state.ensures ∙ writing-none _ _ none

pub returns : goal.returns
returns c =
    let has : has_block c.args.number (card_of c.args.self.now) ≡ true = grind arith in
    ap (λ (s : CardState). record s { awaited = true; target = c.args.number }) c.state-2.ensures ∙ writing-block _ _ has
