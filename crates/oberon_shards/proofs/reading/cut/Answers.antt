use Rattle.oberon_shards.proofs.Fields.{cut_here, uncut}
use Rattle.oberon_shards.proofs.reading.cut.Goals as goal

pub returns-in-Some : goal.returns-in-Some
returns-in-Some c = λ before after lacks is. cut_here c.args.byte c.in-Some.at c.args.text.now before after c.in-Some.ensures lacks is

pub returns-in-None : goal.returns-in-None
returns-in-None c = λ before after lacks is. absurd (uncut c.args.byte c.args.text.now before after c.in-None.ensures is)
