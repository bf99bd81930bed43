use Rattle.std.proofs.Common.{refl}
use Rattle.oberon_card.specs.Transfer.{is_fast}
use Rattle.oberon_card.proofs.transfer.is_fast.Goals as goal

pub returns : goal.returns
unfolding is_fast
returns c = refl
