use Rattle.risc_model.proofs.StoredLemmas.{lane_law-holds}
use Rattle.risc_model.proofs.laws.lane_law.Goals as goal

pub returns : goal.returns
returns c = lane_law-holds
