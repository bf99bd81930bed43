use Rattle.std.proofs.Common.{◌≤◌, ◌-◌, [], false, ℕ, List, ap, drop, length, arith}
use Rattle.std.proofs.lemmas.List.{drop_all}
use Rattle.oberon_card.specs.CardState.{card_of}
use Rattle.oberon_card.specs.Commands.{replied}
use Rattle.oberon_card.proofs.card.Card.reply.Goals as goal

pub returns : goal.returns
unfolding replied
returns c =
    let long : length c.args.self.now.block ≤ 512 = omega (arith, c.args.self.now.whole_block) in
    ap (λ (rest : List ℕ). record (card_of c.args.self.now) {
      command = [];
      application = false;
      reply = drop (6 - c.args.count) c.args.bytes;
      sending = rest;
    })
    (drop_all 512 c.args.self.now.block long)
