use Rattle.std.proofs.Common.{refl}
use Rattle.oberon_session.proofs.Mapped.{unmapped}
use Rattle.oberon_session.specs.inner.Drafts.{input_view}
use Rattle.oberon_session.specs.inner.Tested.{InputFits}
use Rattle.oberon_session.proofs.events.events.Goals as goal

pub returns-in-None-clause-err : goal.returns-in-None-clause-err
returns-in-None-clause-err c = λ no. (refl, λ fit. c.in-None.ensures (unmapped input_view InputFits _ fit _ _ c.loop-draft-test.true))
