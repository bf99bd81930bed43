use Rattle.std.proofs.Common.{◌∙◌, ◌-◌, true, false, arith}
use Rattle.oberon_card.proofs.CardLemmas.{heard-packet, heard-token, heard-command, heard-nothing, a_packet, no_packet}
use Rattle.oberon_card.proofs.card.Card.hear.Goals as goal

pub returns-then-self-gt0 : goal.returns-then-self-gt0
returns-then-self-gt0 c = c.take_packet.ensures ∙ heard-packet _ _ _ (a_packet c.args.self.now c.if-self-gt0.true)

pub returns-then-is_token : goal.returns-then-is_token
returns-then-is_token c = heard-token _ _ (no_packet c.args.self.now c.if-self-gt0.false) (grind arith)

pub returns-then-is_of_command : goal.returns-then-is_of_command
returns-then-is_of_command c = c.take_command.ensures ∙ heard-command _ _ (no_packet c.args.self.now c.if-self-gt0.false) (grind arith) (grind arith)

pub returns-else-is_of_command : goal.returns-else-is_of_command
returns-else-is_of_command c = heard-nothing _ _ (no_packet c.args.self.now c.if-self-gt0.false) (grind arith) (grind arith)
