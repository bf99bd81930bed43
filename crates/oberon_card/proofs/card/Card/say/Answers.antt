use Rattle.std.proofs.Common.{◌≡◌, ◌-◌, [], sym, drop, arith}
use Rattle.oberon_card.specs.CardState.{card_of}
use Rattle.oberon_card.proofs.ListLemmas.{some_left, none_left}
use Rattle.oberon_card.proofs.CardLemmas.{said-reply, spoken-reply, said-block, spoken-block, said-idle, spoken-idle}
use Rattle.oberon_card.proofs.card.Card.say.Goals as goal

pub returns-then-left-gt0-clause-value : goal.returns-then-left-gt0-clause-value
returns-then-left-gt0-clause-value c =
    sym (said-reply (card_of c.args.self.now) _ _ (some_left 6 _ _ _ c.args.self.now.whole_reply c.min-left.ensures c.if-left-gt0.true))

pub returns-then-left-gt0-clause-after : goal.returns-then-left-gt0-clause-after
returns-then-left-gt0-clause-after c =
    spoken-reply (card_of c.args.self.now) _ _ (some_left 6 _ _ _ c.args.self.now.whole_reply c.min-left.ensures c.if-left-gt0.true)

pub returns-then-left-gt0-2-clause-value : goal.returns-then-left-gt0-2-clause-value
returns-then-left-gt0-2-clause-value c =
    let none : drop (6 - c.args.self.now.reply_left) c.args.self.now.reply ≡ [] =
    none_left 6 _ _ _ c.args.self.now.whole_reply c.min-left.ensures (omega arith) c.if-left-gt0.false in
    sym (said-block (card_of c.args.self.now) _ _ none
    (some_left 512 _ _ _ c.args.self.now.whole_block c.min-left-2.ensures c.if-left-gt0-2.true))

pub returns-then-left-gt0-2-clause-after : goal.returns-then-left-gt0-2-clause-after
returns-then-left-gt0-2-clause-after c =
    let none : drop (6 - c.args.self.now.reply_left) c.args.self.now.reply ≡ [] =
    none_left 6 _ _ _ c.args.self.now.whole_reply c.min-left.ensures (omega arith) c.if-left-gt0.false in
    spoken-block (card_of c.args.self.now) _ _ none
    (some_left 512 _ _ _ c.args.self.now.whole_block c.min-left-2.ensures c.if-left-gt0-2.true)

pub returns-clause-value : goal.returns-clause-value
returns-clause-value c =
    let none : drop (6 - c.args.self.now.reply_left) c.args.self.now.reply ≡ [] =
    none_left 6 _ _ _ c.args.self.now.whole_reply c.min-left.ensures (omega arith) c.if-left-gt0.false in
    sym (said-idle (card_of c.args.self.now) none
    (none_left 512 _ _ _ c.args.self.now.whole_block c.min-left-2.ensures (omega arith) c.if-left-gt0-2.false))

pub returns-clause-after : goal.returns-clause-after
returns-clause-after c =
    let none : drop (6 - c.args.self.now.reply_left) c.args.self.now.reply ≡ [] =
    none_left 6 _ _ _ c.args.self.now.whole_reply c.min-left.ensures (omega arith) c.if-left-gt0.false in
    spoken-idle (card_of c.args.self.now) none
    (none_left 512 _ _ _ c.args.self.now.whole_block c.min-left-2.ensures (omega arith) c.if-left-gt0-2.false)
