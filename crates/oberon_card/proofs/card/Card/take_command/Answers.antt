use Rattle.std.proofs.Common.{◌∙◌}
use Rattle.oberon_card.proofs.CardLemmas.{grown, obeyed_whole}
use Rattle.oberon_card.proofs.card.Card.take_command.Goals as goal

pub returns-then-count-lt5 : goal.returns-then-count-lt5
returns-then-count-lt5 c =
    grown c.args.self.now c.args.byte _ c.args.self.now.whole_command c.min-count.ensures c.if-count-lt5.true

pub returns-else-count-lt5 : goal.returns-else-count-lt5
returns-else-count-lt5 c =
    c.obey_command.ensures
    ∙ obeyed_whole c.args.self.now c.args.byte _ c.args.self.now.whole_command c.min-count.ensures c.if-count-lt5.false
