use Rattle.std.proofs.Common.{◌≡◌, ◌==◌, true, false, refl, arith}
use Rattle.oberon_card.specs.Exchange.{is_token}
use Rattle.oberon_card.proofs.card.Card.is_token.Goals as goal

pub returns-then-self-ne0 : goal.returns-then-self-ne0
unfolding is_token
returns-then-self-ne0 c =
    let waits : (c.args.self.now.awaited == 0) ≡ false = grind arith in
    rw waits refl

pub returns-else-self-ne0 : goal.returns-else-self-ne0
unfolding is_token
returns-else-self-ne0 c =
    let idle : (c.args.self.now.awaited == 0) ≡ true = grind arith in
    rw idle refl
