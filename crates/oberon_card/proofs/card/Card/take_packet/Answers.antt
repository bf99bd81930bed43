use Rattle.std.proofs.Common.{◌∙◌, arith}
use Rattle.oberon_card.proofs.CardLemmas.{packet_grown, packet_whole}
use Rattle.oberon_card.proofs.card.Card.take_packet.Goals as goal

pub returns-then-left-eq1 : goal.returns-then-left-eq1
returns-then-left-eq1 c =
    c.finish_packet.ensures
    ∙ packet_whole c.args.self.now c.args.byte _ c.args.self.now.whole_packet c.min-left.ensures c.requires (grind arith) _

pub returns-else-left-eq1 : goal.returns-else-left-eq1
returns-else-left-eq1 c =
    packet_grown c.args.self.now c.args.byte _ c.args.self.now.whole_packet c.min-left.ensures c.requires (grind arith)
