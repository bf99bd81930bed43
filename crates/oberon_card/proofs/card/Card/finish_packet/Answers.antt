use Rattle.std.proofs.Common.{◌≡◌, ◌≤◌, ◌∷◌, ◌∙◌, [], ℕ, List, Some, None, ap, drop, take, length, arith}
use Rattle.std.proofs.lemmas.List.{drop_all}
use Rattle.oberon_card.specs.CardState.{CardState, card_of}
use Rattle.oberon_card.proofs.CardLemmas.{packed-whole}
use Rattle.oberon_card.proofs.card.Card.finish_packet.Goals as goal

pub returns : goal.returns
returns c =
    let old : CardState = card_of c.args.self.now in
    let long : length c.copy_from_slice.new.self ≤ 512 = omega (arith, c.copy_from_slice.ensures.len, c.args.self.now.whole_block) in
    let none : drop 512 c.copy_from_slice.new.self ≡ [] = drop_all 512 _ long in
    let is : c.copy_from_slice.new.self ≡ take 512 c.args.self.now.packet = c.copy_from_slice.ensures.after in
    let with_block : List ℕ → List ℕ → CardState = λ block rest.
    record old { packet = None; block = block; reply = 5 ∷ 0 ∷ []; sending = rest; write = Some c.args.self.now.target } in
    ap (with_block c.copy_from_slice.new.self) none
    ∙ ap (λ (block : List ℕ). with_block block []) is
    ∙ packed-whole c.args.self.now.packet old c.args.self.now.whole_packet
