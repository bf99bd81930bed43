use Rattle.std.proofs.lemmas.Result.{IfOk-weaker}
use Rattle.oberon_session.proofs.Plain.{plain-law}
use Rattle.oberon_session.proofs.reading.read_session.Goals as goal

pub returns-clause-plain : goal.returns-clause-plain
returns-clause-plain c = IfOk-weaker c.read_up_to.result _ _ (λ session read. (plain-law c.args.bytes.now session read).1) c.read_up_to.ensures.ok
