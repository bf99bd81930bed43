use Rattle.std.proofs.Common.{arith}
use Rattle.std.proofs.lemmas.Grind.{common_steps}
use Rattle.oberon_session.specs.Stored.{store_page}
use Rattle.oberon_session.proofs.storing.store_page.Goals as goal

pub returns-clause-stored : goal.returns-clause-stored
unfolding store_page
returns-clause-stored c = grind (arith, common_steps)
