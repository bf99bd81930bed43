use Rattle.std.proofs.Common.{◌≡◌, true, false, nat_le, refl, arith}
use Rattle.oberon_card.specs.CardState.{has_block}
use Rattle.oberon_card.proofs.card.Card.has_block.Goals as goal

pub returns-then-number-self : goal.returns-then-number-self
unfolding has_block
returns-then-number-self c =
    let from : nat_le c.args.self.now.first c.args.number ≡ true = grind arith in
    rw from refl

pub returns-else-number-self : goal.returns-else-number-self
unfolding has_block
returns-else-number-self c =
    let before : nat_le c.args.self.now.first c.args.number ≡ false = grind arith in
    rw before refl
