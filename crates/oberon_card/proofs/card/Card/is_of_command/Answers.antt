use Rattle.std.proofs.Common.{◌≡◌, nat_lt, true, false, refl, arith}
use Rattle.oberon_card.specs.Exchange.{is_of_command}
use Rattle.oberon_card.proofs.CardLemmas.{came}
use Rattle.oberon_card.proofs.card.Card.is_of_command.Goals as goal

pub returns-then-self-gt0 : goal.returns-then-self-gt0
unfolding is_of_command
returns-then-self-gt0 c =
    let some : nat_lt 0 c.args.self.now.command_count ≡ true = grind arith in
    rw (came c.args.self.now c.args.self.now.whole_command) (rw some refl)

pub returns-else-self-gt0 : goal.returns-else-self-gt0
unfolding is_of_command
returns-else-self-gt0 c =
    let none : nat_lt 0 c.args.self.now.command_count ≡ false = grind arith in
    rw (came c.args.self.now c.args.self.now.whole_command) (rw none refl)
