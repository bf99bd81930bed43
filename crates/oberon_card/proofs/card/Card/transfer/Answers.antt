use Rattle.std.proofs.Common.{◌≡◌, ◌∙◌, true, false, ap, arith}
use Rattle.oberon_card.specs.Exchange.{said, exchanged}
use Rattle.oberon_card.specs.CardState.{card_of}
use Rattle.oberon_card.specs.Transfer.{served, is_selected, is_fast}
use Rattle.oberon_card.proofs.TransferLemmas.{idle_after, idle_answer, slow_after, slow_answer, fast_after, fast_answer, four}
use Rattle.oberon_card.proofs.card.Card.transfer.Goals as goal

pub returns-then-not-is_selected-clause-after : goal.returns-then-not-is_selected-clause-after
unfolding served
returns-then-not-is_selected-clause-after c =
    let idle : is_selected c.args.control ≡ false = grind arith in
    idle_after _ _ (card_of c.args.self.now) idle

pub returns-then-not-is_selected-clause-answer : goal.returns-then-not-is_selected-clause-answer
returns-then-not-is_selected-clause-answer c =
    let idle : is_selected c.args.control ≡ false = grind arith in
    idle_answer _ _ (card_of c.args.self.now) idle

pub returns-then-not-is_fast-clause-after : goal.returns-then-not-is_fast-clause-after
unfolding served
returns-then-not-is_fast-clause-after c =
    let selected : is_selected c.args.control ≡ true = grind arith in
    let slow : is_fast c.args.control ≡ false = grind arith in
    c.exchange.ensures.after ∙ slow_after _ _ _ (card_of c.args.self.now) c.to_le_bytes.ensures selected slow

pub returns-then-not-is_fast-clause-answer : goal.returns-then-not-is_fast-clause-answer
unfolding served
returns-then-not-is_fast-clause-answer c =
    let selected : is_selected c.args.control ≡ true = grind arith in
    let slow : is_fast c.args.control ≡ false = grind arith in
    c.exchange.ensures.value ∙ slow_answer _ c.args.value (card_of c.args.self.now) selected slow

pub returns-clause-after : goal.returns-clause-after
unfolding served
returns-clause-after c =
    let selected : is_selected c.args.control ≡ true = grind arith in
    let fast : is_fast c.args.control ≡ true = grind arith in
    c.exchange-5.ensures.after
    ∙ ap (exchanged _) (c.exchange-4.ensures.after ∙ ap (exchanged _) (c.exchange-3.ensures.after ∙ ap (exchanged _) c.exchange-2.ensures.after))
    ∙ fast_after _ _ _ (card_of c.args.self.now) c.to_le_bytes.ensures selected fast

pub returns-clause-answer : goal.returns-clause-answer
unfolding served
returns-clause-answer c =
    let selected : is_selected c.args.control ≡ true = grind arith in
    let fast : is_fast c.args.control ≡ true = grind arith in
    let second = c.exchange-2.ensures.after in
    let third = c.exchange-3.ensures.after ∙ ap (exchanged _) second in
    let fourth = c.exchange-4.ensures.after ∙ ap (exchanged _) third in
    c.from_le_bytes.ensures
    ∙ four _ _ _ _ _ _ _ _ c.exchange-2.ensures.value (c.exchange-3.ensures.value ∙ ap said second)
    (c.exchange-4.ensures.value ∙ ap said third) (c.exchange-5.ensures.value ∙ ap said fourth)
    ∙ fast_answer _ _ _ (card_of c.args.self.now) c.to_le_bytes.ensures selected fast
