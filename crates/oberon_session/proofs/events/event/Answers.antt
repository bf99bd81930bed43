use Rattle.risc_devices.proofs.InputLemmas.{value_fits}
use Rattle.oberon_session.proofs.events.event.Goals as goal

pub returns-in_default : goal.returns-in_default
returns-in_default c = λ fits.
    c.in_default.ensures (value_fits c.args.draft.now.kind c.args.draft.now.value fits.1)
