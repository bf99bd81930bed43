use Rattle.risc_core.proofs.FlagsLemmas.{flags_law-holds}
use Rattle.risc_core.proofs.laws.flags_law.Goals as goal

pub returns : goal.returns
returns c = flags_law-holds
