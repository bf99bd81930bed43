use Rattle.std.proofs.Common.{arith}
use Rattle.std.proofs.lemmas.Grind.{common_steps}
use Rattle.risc_core.specs.Place.{address_of, lane_of, target_of}
use Rattle.risc_core.proofs.locate.place.Goals as goal

pub returns-then-address-lt-RAM_END-clause-lane : goal.returns-then-address-lt-RAM_END-clause-lane
unfolding address_of target_of lane_of
returns-then-address-lt-RAM_END-clause-lane c = grind (arith, common_steps)
